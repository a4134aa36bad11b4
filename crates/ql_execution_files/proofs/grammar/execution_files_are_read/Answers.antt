use Rattle.ql_execution_files.proofs.Trees.{one_tree, read, spelled}
use Rattle.ql_execution_files.proofs.Saying.{one_said}
use Rattle.ql_execution_files.proofs.grammar.execution_files_are_read.Goals as goal

pub returns-clause-spelled : goal.returns-clause-spelled
returns-clause-spelled c = spelled

pub returns-clause-read : goal.returns-clause-read
returns-clause-read c = read

pub returns-clause-tree : goal.returns-clause-tree
returns-clause-tree c = one_tree

pub returns-clause-execution : goal.returns-clause-execution
returns-clause-execution c = one_said
