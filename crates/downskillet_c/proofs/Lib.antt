mod Passes
mod Sounds
mod Tables
mod Arrays
mod Structures
