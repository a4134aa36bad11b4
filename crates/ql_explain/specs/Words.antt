-- The arguments that make a request:  SOURCE, or  --json SOURCE, or  --baseline FILE SOURCE
use Rattle.std.specs.Prelude.{ℕ, if◌then◌else◌, List, [], ◌∷◌, Option, Some, None, codes}
use Rattle.std.specs.Option.{option_map}
use Rattle.std.specs.Str.{bytes_eq}
use Rattle.ql_reply.specs.Arguments.{is_file_name}
use Rattle.ql_explain.specs.declared.request.Request.{Request}
use Rattle.ql_explain.specs.declared.request.Request.TheVariants as request
use Rattle.ql_explain.specs.declared.request.Form.{Form}
use Rattle.ql_explain.specs.declared.request.Form.TheVariants.{Text, Json}

-- what is found of the source of a name, in a form; or which of its levels are higher than in the stored answer of a name
pub data Inquiry : Type 0 where
  Explained : Form → List ℕ → Inquiry
  Compared : List ℕ → List ℕ → Inquiry

-- the argument, if it is a name and no more follow
abbrev pub only_name : List ℕ → List (List ℕ) → Option (List ℕ)
only_name word [] = if is_file_name word then Some word else None
only_name word (next ∷ words) = None

abbrev pub one_name : List (List ℕ) → Option (List ℕ)
one_name [] = None
one_name (word ∷ words) = only_name word words

abbrev pub plain_of : List ℕ → List (List ℕ) → Option Inquiry
plain_of word words = option_map (Explained Text) (only_name word words)

-- what stands after --json
abbrev pub json_of : List (List ℕ) → Option Inquiry
json_of words = option_map (Explained Json) (one_name words)

-- what stands after --baseline
abbrev pub against_of : List (List ℕ) → Option Inquiry
against_of [] = None
against_of (word ∷ words) = if is_file_name word then option_map (λ name. Compared word name) (one_name words) else None

-- the request that the arguments make, if they make one
abbrev pub inquiry : List (List ℕ) → Option Inquiry
inquiry [] = None
inquiry (word ∷ words) =
    if bytes_eq word (codes "--json") then json_of words else (if bytes_eq word (codes "--baseline") then against_of words else plain_of word words)

-- a request as data
abbrev pub inquiry_of : Request → Inquiry
inquiry_of (request.Explained form name) = Explained form name.now
inquiry_of (request.Compared pair) = Compared pair.baseline.now pair.source.now
