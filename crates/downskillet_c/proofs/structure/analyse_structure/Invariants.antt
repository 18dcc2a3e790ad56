use Rattle.analysis.specs.Growth.{pattern_in}
use Rattle.downskillet_c.proofs.structure.analyse_structure.Given as goal

abbrev pub ghost-structure : goal.ghost-structure
ghost-structure a = pattern_in a.vertices.now a.entries.now
