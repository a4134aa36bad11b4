-- what is written with status 0 to `run` is the text of a run
use Rattle.std.proofs.Common.{◌≡◌, inl, inr, ℕ, ◌≤◌, length, List, [], ◌++◌, Option, Some, get_or, arith, refl, ap, sym, subst, ◌∙◌}
use Rattle.ql_ports.specs.Written.{appended}
use Rattle.ql_app.specs.declared.outcome.Limits.{Limits}
use Rattle.ql_reply.specs.declared.status.Status.TheVariants.{Done, Usage}
use Rattle.ql_app.specs.declared.words.Command.TheVariants.{Holds, Proof, Classify, ClassifyWhy, Prove, Gen, Soak}
use Rattle.ql_app.specs.declared.words.PairCommand.TheVariants.{Check, Verify, Run, Slim, Restart}
use Rattle.ql_app.specs.Outcome.{Judges, Says}
use Rattle.ql_reply.specs.Read.{IsRead}
use Rattle.ql_reply.specs.Wrote.{Wrote}
use Rattle.ql_claim.specs.RunWritten.{WritesRun}
use Rattle.ql_app.specs.Words.{NamedRequest, IsRequest, OneFile, TwoFiles, pair_words}
use Rattle.ql_running.specs.declared.form.Form.{Form}
use Rattle.ql_running.specs.declared.form.Form.TheVariants.{Text, Json}
use Rattle.ql_running.specs.Forms.{format_of}
use Rattle.ql_running.specs.Runs.{ReportsRun}
use Rattle.ql_app.proofs.OutcomeLaws.{of_held}

-- the first byte of the first argument
abbrev first : List (List ℕ) → ℕ
first ws = get_or (get_or ws 0 []) 0 0

run_first : (form : Form) (name other : List ℕ) → first (pair_words (Run form) name other) ≡ 114
run_first Text name other = refl
run_first Json name other = refl

run_length : (form : Form) (name other : List ℕ) → length (pair_words (Run form) name other) ≤ 4
run_length Text name other = omega arith
run_length Json name other = omega arith

-- arguments of `run` have one form, and name the same files
same_files : (f g : Form) (n m name other : List ℕ) → pair_words (Run f) n m ≡ pair_words (Run g) name other → (f ≡ g) × (n ≡ name) × (m ≡ other)
same_files Text Text n m name other same = (refl, (let one : n ≡ name = cc in one), (let two : m ≡ other = cc in two))
same_files Json Json n m name other same = (refl, (let one : n ≡ name = cc in one), (let two : m ≡ other = cc in two))
same_files Text Json n m name other same = absurd (let never : 3 ≡ 4 = ap length same in omega (arith, never))
same_files Json Text n m name other same = absurd (let never : 4 ≡ 3 = ap length same in omega (arith, never))

module _ (limits : Limits) (held : List ℕ → Option (List ℕ)) (form : Form) (name other source file text : List ℕ) (name_held : held name ≡ Some source) (other_held : held other ≡ Some file) where
  reported : (f : Form) (n m : List ℕ) → f ≡ form → n ≡ name → m ≡ other → Judges limits held (TwoFiles (Run f) n m) Done text → ReportsRun (format_of form) source file text
  reported f n m f_is n_is m_is says =
      let whole = of_held limits.file (held n) (λ bytes. IsRead limits.file (held m) (λ more. ReportsRun (format_of f) bytes more text)) source (ap held n_is ∙ name_held) says in
      let both = of_held limits.file (held m) (λ more. ReportsRun (format_of f) source more text) file (ap held m_is ∙ other_held) whole.1 in
      subst (λ (g : Form). ReportsRun (format_of g) source file text) f_is both.1

  asked : (words : List (List ℕ)) → words ≡ pair_words (Run form) name other → (named : NamedRequest) → IsRequest words named → Judges limits held named Done text → ReportsRun (format_of form) source file text
  asked words are (OneFile Holds n) is says = absurd (let never : first (pair_words (Run form) name other) ≡ 104 = ap first (sym are ∙ is.0) in omega (arith, never, run_first form name other))
  asked words are (OneFile Proof n) is says = absurd (let never : first (pair_words (Run form) name other) ≡ 112 = ap first (sym are ∙ is.0) in omega (arith, never, run_first form name other))
  asked words are (OneFile Classify n) is says = absurd (let never : first (pair_words (Run form) name other) ≡ 99 = ap first (sym are ∙ is.0) in omega (arith, never, run_first form name other))
  asked words are (OneFile ClassifyWhy n) is says = absurd (let never : first (pair_words (Run form) name other) ≡ 99 = ap first (sym are ∙ is.0) in omega (arith, never, run_first form name other))
  asked words are (OneFile Prove n) is says = absurd (let never : first (pair_words (Run form) name other) ≡ 112 = ap first (sym are ∙ is.0) in omega (arith, never, run_first form name other))
  asked words are (OneFile (Gen number events) n) is says = absurd (let never : first (pair_words (Run form) name other) ≡ 103 = ap first (sym are ∙ is.0) in omega (arith, never, run_first form name other))
  asked words are (OneFile (Soak number) n) is says = absurd (let never : first (pair_words (Run form) name other) ≡ 115 = ap first (sym are ∙ is.0) in omega (arith, never, run_first form name other))
  asked words are (TwoFiles Check n m) is says = absurd (let never : first (pair_words (Run form) name other) ≡ 99 = ap first (sym are ∙ is.0) in omega (arith, never, run_first form name other))
  asked words are (TwoFiles Verify n m) is says = absurd (let never : first (pair_words (Run form) name other) ≡ 118 = ap first (sym are ∙ is.0) in omega (arith, never, run_first form name other))
  asked words are (TwoFiles Slim n m) is says = absurd (let never : first (pair_words (Run form) name other) ≡ 115 = ap first (sym are ∙ is.0) in omega (arith, never, run_first form name other))
  asked words are (TwoFiles (Restart replica cut) n m) is says =
      absurd (let never : length (pair_words (Run form) name other) ≡ 5 = ap length (sym are ∙ is.0) in omega (arith, never, run_length form name other))
  asked words are (TwoFiles (Run f) n m) is says = let same = same_files f form n m name other (sym is.0 ∙ are) in reported f n m same.0 same.1 same.2 says

pub writes-run : (limits : Limits) (words : List (List ℕ)) (held : List ℕ → Option (List ℕ)) (before after : List ℕ → ℕ) (was is : Option (List ℕ)) (counts sums : ℕ)
    → Wrote (Says limits words held before after) was is counts sums Done → WritesRun words held was is
writes-run limits words held before after was is counts sums wrote form name other source file start are name_held other_held begun = by wrote.1 wrote.2
  where
    by : Says limits words held before after Done wrote.0 → is ≡ appended was wrote.0 → (text : List ℕ) × (is ≡ Some (start ++ text)) × ReportsRun (format_of form) source file text
    by (inl asks) put = (
      wrote.0,
      put ∙ ap (λ (w : Option (List ℕ)). appended w wrote.0) begun,
      asked limits held form name other source file wrote.0 name_held other_held words are asks.0 asks.1 asks.2,
    )
    by (inr usage) put = absurd (let never : Done ≡ Usage = usage.0 in cc)
