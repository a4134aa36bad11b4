-- lines that are no contract's
use Rattle.std.proofs.Common.{◌≡◌, ◌∷◌, ℕ, List, Err, codes, refl, subst}
use Rattle.ql_lines.specs.Fields.{FirstField, fields_of, Fields}
use Rattle.ql_lang.specs.Trees.{Sentence}
use Rattle.ql_lex.specs.declared.token.LexFault.{LexFault}
use Rattle.ql_lex.specs.Tokens.{Lexes}
use Rattle.ql_grammar.specs.Limits as limits
use Rattle.ql_parse.specs.Parsing.{IsContractAnswer, IsContractFault, IsContractText}
use Rattle.ql_parse.specs.declared.fault.ParseFault.{ParseFault}
use Rattle.ql_parse.specs.declared.fault.ParseFault.TheVariants as parse
use Rattle.ql_holds_files.specs.ContractLine.{IsContractLine}
use Rattle.ql_holds_files.specs.OneLine.{one_rest}

-- a line that begins with no such word
pub no_word : (text : List ℕ) → ((rest : Fields) → fields_of text ≡ codes "contract" ∷ rest → ⊥) → (c : Sentence) → IsContractLine text c → ⊥
no_word text none c p = none (fields_of p.rest) p.first.fields

-- the text after the word has a fault
module _ (apart : (bytes : List ℕ) (s : Sentence) (f : limits.Fault) → IsContractText bytes s → IsContractFault bytes f → ⊥)
    (no_lexical : (bytes : List ℕ) (s : Sentence) (e : LexFault) → IsContractText bytes s → Lexes 0 bytes (Err e) → ⊥) where
  module _ (text after : List ℕ) (first : FirstField text (codes "contract") after) where
    here : (c : Sentence) → IsContractLine text c → IsContractText after c
    here c p = subst (λ (r : List ℕ). IsContractText r c) (one_rest text p.rest after p.first first) p.contract

    pub no_contract : (f : ParseFault) → IsContractAnswer after (Err f) → (f ≡ parse.NoMemory → ⊥) → (c : Sentence) → IsContractLine text c → ⊥
    no_contract (parse.Lex e) h other c p = no_lexical after c e (here c p) h
    no_contract (parse.Unexpected at) h other c p = apart after c (limits.Unexpected at) (here c p) h
    no_contract (parse.Deep at) h other c p = apart after c (limits.Deep at) (here c p) h
    no_contract (parse.Wide at) h other c p = apart after c (limits.Wide at) (here c p) h
    no_contract parse.NoMemory h other c p = other refl
