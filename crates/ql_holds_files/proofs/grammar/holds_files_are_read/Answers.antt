use Rattle.ql_holds_files.proofs.Asking.{one_question}
use Rattle.ql_holds_files.proofs.Trees.{one_tree, read, spelled}
use Rattle.ql_holds_files.proofs.grammar.holds_files_are_read.Goals as goal

pub returns-clause-spelled : goal.returns-clause-spelled
returns-clause-spelled c = spelled

pub returns-clause-read : goal.returns-clause-read
returns-clause-read c = read

pub returns-clause-tree : goal.returns-clause-tree
returns-clause-tree c = one_tree c.one_answer.ensures.tree

pub returns-clause-question : goal.returns-clause-question
returns-clause-question c = one_question
