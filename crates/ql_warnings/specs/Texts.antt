-- Warnings as sentences.
use Rattle.std.specs.Prelude.{ℕ, List, [], ◌++◌, codes, decimal, slice_get}
use Rattle.std.specs.Option.{option_map_or}
use Rattle.ql_lang.specs.declared.program.Program.{Program}
use Rattle.ql_typing.specs.Operations.{all_ops}
use Rattle.ql_warnings.specs.declared.warning.Place.{Place}
use Rattle.ql_warnings.specs.declared.warning.Warning.{Warning}
use Rattle.ql_warnings.specs.declared.warning.Warning.TheVariants as warning

-- the name of an operation
abbrev pub name_of_operation : Program → ℕ → List ℕ
name_of_operation p o = option_map_or (λ op. op.name.word) (slice_get (all_ops p.types) o) []

-- what is at LINE:COLUMN, and a sentence on it
abbrev pub placed : Place → List ℕ → List ℕ
placed place said = codes "The part at " ++ decimal place.line ++ codes ":" ++ decimal place.column ++ codes " " ++ said

abbrev pub unbracketed : List ℕ
unbracketed = codes "joins two statements with `=>` without brackets, so the second one is a part of the first: put brackets around each, as in (a => b) /\\ (c => d)."

abbrev pub asks_nothing : List ℕ
asks_nothing = codes "The contract asks for nothing: it holds in every execution, whatever the level."

abbrev pub never : List ℕ
never = codes "can't hold with the rest before its `=>`, in any execution: so what comes after it is never required."

abbrev pub unneeded : List ℕ
unneeded = codes "isn't needed: it holds wherever the rest before its `=>` does."

abbrev pub named_as_operation_text : List ℕ → List ℕ
named_as_operation_text name = codes "The variable " ++ name ++ codes " has an operation's name, and stands for any effect: `a: " ++ name ++ codes "` stands for the operation's."

abbrev pub ruled_out_text : List ℕ → ℕ → List ℕ
ruled_out_text name at = codes "The contract of " ++ name ++ codes " is false here too, at effect " ++ decimal at ++ codes ": where " ++ name ++ codes " has its level, this execution can't happen."

abbrev pub warning_text : Program → Warning → List ℕ
warning_text p (warning.NamedAsOperation v op) = named_as_operation_text (name_of_operation p op.0)
warning_text p (warning.Unbracketed place) = placed place unbracketed
warning_text p warning.AsksNothing = asks_nothing
warning_text p (warning.NeverApplies place) = placed place never
warning_text p (warning.Unneeded place) = placed place unneeded
warning_text p (warning.RuledOut op at) = ruled_out_text (name_of_operation p op.0) at.0

-- the word of a warning's kind
abbrev pub warning_word : Warning → List ℕ
warning_word (warning.NamedAsOperation v op) = codes "named as operation"
warning_word (warning.Unbracketed place) = codes "unbracketed"
warning_word warning.AsksNothing = codes "asks nothing"
warning_word (warning.NeverApplies place) = codes "never applies"
warning_word (warning.Unneeded place) = codes "unneeded"
warning_word (warning.RuledOut op at) = codes "ruled out"
