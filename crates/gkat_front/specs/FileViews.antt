-- The contents of a file of the program.
use Rattle.gkat_front.specs.Expressions.{gkat_tree}
use Rattle.gkat_front.specs.Files.{GkatFileParts}
use Rattle.gkat_front.specs.declared.file.GkatFile.{GkatFile}

abbrev pub file_parts : GkatFile → GkatFileParts
file_parts f = record { scope = f.scope; tests = f.tests; actions = f.actions; left = gkat_tree f.left; right = gkat_tree f.right }
