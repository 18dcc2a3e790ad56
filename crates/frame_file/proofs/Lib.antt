mod Answering
mod Carrying
mod Lines
mod Settling
