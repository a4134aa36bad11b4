-- what is written with status 0 or 1 to `classify` says that its levels are least
use Rattle.std.proofs.Common.{◌≡◌, inl, inr, ℕ, List, [], ◌∷◌, ◌++◌, Option, Some, get_or, codes, arith, sym, ap, ◌∙◌}
use Rattle.ql_ports.specs.Written.{appended}
use Rattle.ql_app.specs.declared.outcome.Limits.{Limits}
use Rattle.ql_reply.specs.declared.status.Status.{Status}
use Rattle.ql_reply.specs.declared.status.Status.TheVariants.{Done, No, Usage}
use Rattle.ql_app.specs.declared.words.Command.TheVariants.{Holds, Proof, Classify, ClassifyWhy, Prove, Gen, Soak}
use Rattle.ql_app.specs.declared.words.PairCommand.TheVariants.{Check, Verify, Run, Slim, Restart}
use Rattle.ql_running.specs.declared.form.Form.TheVariants.{Text, Json}
use Rattle.ql_claim.specs.LeastWritten.{WritesLeast, WritesNone}
use Rattle.ql_app.specs.Outcome.{Judges, Says}
use Rattle.ql_reply.specs.Read.{IsRead}
use Rattle.ql_reply.specs.Wrote.{Wrote}
use Rattle.ql_app.specs.Words.{NamedRequest, IsRequest, OneFile, TwoFiles}
use Rattle.ql_commands.specs.Classify.{ClassifySays}
use Rattle.ql_verdicts.specs.Commands.{ReportsLeast, ReportsNone}
use Rattle.ql_app.proofs.OutcomeLaws.{of_held}

-- the first byte of the first argument
abbrev first : List (List ℕ) → ℕ
first ws = get_or (get_or ws 0 []) 0 0

module _ (limits : Limits) (held : List ℕ → Option (List ℕ)) (name source text : List ℕ) (name_held : held name ≡ Some source) where
  reported : (Reported : List ℕ → Type 0) (n : List ℕ) → n ≡ name → IsRead limits.file (held n) Reported → Reported source
  reported Reported n n_is says = let whole = of_held limits.file (held n) Reported source (ap held n_is ∙ name_held) says in whole.1

  asked : (status : Status) (Reported : List ℕ → Type 0) → ((n : List ℕ) → Judges limits held (OneFile Classify n) status text → IsRead limits.file (held n) Reported)
      → (words : List (List ℕ)) → words ≡ codes "classify" ∷ name ∷ [] → (named : NamedRequest) → IsRequest words named → Judges limits held named status text → Reported source
  asked status Reported judged words are (OneFile Holds n) is says = absurd (let never : 99 ≡ 104 = ap first (sym are ∙ is.0) in omega (arith, never))
  asked status Reported judged words are (OneFile Proof n) is says = absurd (let never : 99 ≡ 112 = ap first (sym are ∙ is.0) in omega (arith, never))
  asked status Reported judged words are (OneFile Classify n) is says =
      let same : codes "classify" ∷ n ∷ [] ≡ codes "classify" ∷ name ∷ [] = sym is.0 ∙ are in
      let one : n ≡ name = cc in
      reported Reported n one (judged n says)
  asked status Reported judged words are (OneFile ClassifyWhy n) is says =
      absurd (let never : codes "classify" ∷ name ∷ [] ≡ codes "classify" ∷ codes "--why" ∷ n ∷ [] = sym are ∙ is.0 in cc)
  asked status Reported judged words are (OneFile Prove n) is says = absurd (let never : 99 ≡ 112 = ap first (sym are ∙ is.0) in omega (arith, never))
  asked status Reported judged words are (OneFile (Gen number events) n) is says = absurd (let never : 99 ≡ 103 = ap first (sym are ∙ is.0) in omega (arith, never))
  asked status Reported judged words are (OneFile (Soak number) n) is says = absurd (let never : 99 ≡ 115 = ap first (sym are ∙ is.0) in omega (arith, never))
  asked status Reported judged words are (TwoFiles Check n m) is says =
      absurd (let never : codes "classify" ∷ name ∷ [] ≡ codes "check" ∷ n ∷ m ∷ [] = sym are ∙ is.0 in cc)
  asked status Reported judged words are (TwoFiles Verify n m) is says = absurd (let never : 99 ≡ 118 = ap first (sym are ∙ is.0) in omega (arith, never))
  asked status Reported judged words are (TwoFiles (Run Text) n m) is says = absurd (let never : 99 ≡ 114 = ap first (sym are ∙ is.0) in omega (arith, never))
  asked status Reported judged words are (TwoFiles (Run Json) n m) is says = absurd (let never : 99 ≡ 114 = ap first (sym are ∙ is.0) in omega (arith, never))
  asked status Reported judged words are (TwoFiles Slim n m) is says = absurd (let never : 99 ≡ 115 = ap first (sym are ∙ is.0) in omega (arith, never))
  asked status Reported judged words are (TwoFiles (Restart replica cut) n m) is says = absurd (let never : 99 ≡ 114 = ap first (sym are ∙ is.0) in omega (arith, never))

module _ (limits : Limits) (words : List (List ℕ)) (held : List ℕ → Option (List ℕ)) (before after : List ℕ → ℕ) (was is : Option (List ℕ)) (faults sums : ℕ) where
  pub writes_least : ((source text : List ℕ) → ClassifySays source Done text → ReportsLeast source text)
      → Wrote (Says limits words held before after) was is faults sums Done → WritesLeast words held was is
  writes_least law wrote name source start are name_held begun = by wrote.1 wrote.2
    where
      by : Says limits words held before after Done wrote.0 → is ≡ appended was wrote.0 → (text : List ℕ) × (is ≡ Some (start ++ text)) × ReportsLeast source text
      by (inl asks) put = (
        wrote.0,
        put ∙ ap (λ (w : Option (List ℕ)). appended w wrote.0) begun,
        law source wrote.0 (asked limits held name source wrote.0 name_held Done (λ bytes. ClassifySays bytes Done wrote.0) (λ n h. h) words are asks.0 asks.1 asks.2),
      )
      by (inr usage) put = absurd (let never : Done ≡ Usage = usage.0 in cc)

  pub writes_none : ((source text : List ℕ) → ClassifySays source No text → ReportsNone source text)
      → Wrote (Says limits words held before after) was is faults sums No → WritesNone words held was is
  writes_none law wrote name source start are name_held begun = by wrote.1 wrote.2
    where
      by : Says limits words held before after No wrote.0 → is ≡ appended was wrote.0 → (text : List ℕ) × (is ≡ Some (start ++ text)) × ReportsNone source text
      by (inl asks) put = (
        wrote.0,
        put ∙ ap (λ (w : Option (List ℕ)). appended w wrote.0) begun,
        law source wrote.0 (asked limits held name source wrote.0 name_held No (λ bytes. ClassifySays bytes No wrote.0) (λ n h. h) words are asks.0 asks.1 asks.2),
      )
      by (inr usage) put = absurd (let never : No ≡ Usage = usage.0 in cc)
