-- What is said of a source and of a stored answer, from what is said of each; and lines one after another.
use Rattle.std.proofs.Common.{◌≡◌, ℕ, ◌+◌, List, [], ◌∷◌, ◌++◌, map, take, Some, Ok, Result, Err, slice_get, sym, ap, ◌∙◌, append_assoc}
use Rattle.std.proofs.lemmas.List.{append-nil, take_more}
use Rattle.std.proofs.lemmas.Option.{get_or_from_slice_get, slice_get_within}
use Rattle.std.specs.List.{concat}
use Rattle.std.specs.Prelude.{IfOk}
use Rattle.std.specs.Global.{Vec}
use Rattle.ql_base.specs.declared.no_memory.NoMemory.{NoMemory}
use Rattle.ql_reply.specs.declared.reply.Reply.{Reply}
use Rattle.ql_reply.specs.declared.status.Status.{Status}
use Rattle.ql_reply.specs.declared.status.Status.TheVariants.{Done, No, Bad, ReadFault, WriteFault, Usage, TooLarge}
use Rattle.ql_commands.specs.Sources.{IsSourceOf}
use Rattle.ql_lang.specs.declared.program.Program.{Program}
use Rattle.ql_baseline.specs.Comparison.{BaselineSays, IsComparison}
use Rattle.ql_baseline.specs.Files.{IsBaseline}
use Rattle.ql_baseline.specs.declared.stored.Stored.{Stored}

-- the text of one more item
joined_more : {X : Type 0} (text : X → List ℕ) (xs : List X) (x : X) → concat (map text (xs ++ x ∷ [])) ≡ concat (map text xs) ++ text x
joined_more text [] x = append-nil (text x)
joined_more text (y ∷ xs) x = ap (λ (l : List ℕ). text y ++ l) (joined_more text xs x) ∙ sym (append_assoc (text y) (concat (map text xs)) (text x))

pub one_more : {X : Type 0} (text : X → List ℕ) (xs : List X) (k : ℕ) (x : X) (old new : List ℕ) → slice_get xs k ≡ Some x → old ≡ concat (map text (take k xs)) → new ≡ old ++ text x
    → new ≡ concat (map text (take (k + 1) xs))
one_more text xs k x old new at before longer =
    let more : take (k + 1) xs ≡ take k xs ++ x ∷ [] = take_more xs k x (slice_get_within xs k x at) ∙ ap (λ y. take k xs ++ y ∷ []) (get_or_from_slice_get xs k x x at) in
    longer ∙ ap (λ (l : List ℕ). l ++ text x) before ∙ sym (joined_more text (take k xs) x) ∙ sym (ap (λ ys. concat (map text ys)) more)

module _ (source baseline : List ℕ) (p : Program) (stored : List Stored) (of : IsSourceOf source p) (says : IsBaseline baseline (Ok stored)) where
  compared : (answer : Status) (text : List ℕ) → IsComparison p stored answer text → BaselineSays source baseline answer text
  compared Done text is = (p, of, stored, says, is)
  compared No text is = (p, of, stored, says, is)
  compared Bad text is = absurd is
  compared ReadFault text is = absurd is
  compared WriteFault text is = absurd is
  compared Usage text is = absurd is
  compared TooLarge text is = absurd is

  pub compared_said : (said : Result Reply NoMemory) → IfOk said (λ x. IsComparison p stored x.status x.text.items) → IfOk said (λ x. BaselineSays source baseline x.status x.text.items)
  compared_said (Ok x) is = compared x.status x.text.items is
  compared_said (Err e) is = tt
