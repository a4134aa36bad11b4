-- The arguments that ask for a picture:  [--all] FILE [SCHEDULE] [--breach WORD..]
use Rattle.std.specs.Prelude.{ℕ, Bool, true, false, if◌then◌else◌, List, [], ◌∷◌, Option, Some, None, map, codes}
use Rattle.std.specs.Option.{option_map}
use Rattle.std.specs.Str.{bytes_eq}
use Rattle.std.specs.String.{string_bytes}
use Rattle.ql_reply.specs.Arguments.{is_file_name}
use Rattle.ql_draw.specs.declared.words.Request.{Request}

-- what is to be drawn: whether there are arrows from all effects that are seen, the names of the files, and the
-- description of a breach
pub record PictureAsked : Type 0 where
  pub all : Bool
  pub file : List ℕ
  pub schedule : Option (List ℕ)
  pub breach : List (List ℕ)

-- the description of a breach, the arguments after its option
abbrev pub breach_of : List (List ℕ) → Option (List (List ℕ))
breach_of [] = Some []
breach_of (word ∷ words) = if bytes_eq word (codes "--breach") then Some words else None

abbrev pub with_breach : Bool → List ℕ → Option (List ℕ) → Option (List (List ℕ)) → Option PictureAsked
with_breach all file schedule breach = option_map (λ words. record { all = all; file = file; schedule = schedule; breach = words }) breach

-- the request from the arguments after the name of the first file
abbrev pub after_file : Bool → List ℕ → List (List ℕ) → Option PictureAsked
after_file all file [] = with_breach all file None (Some [])
after_file all file (word ∷ words) =
    if is_file_name word then with_breach all file (Some word) (breach_of words) else with_breach all file None (breach_of (word ∷ words))

abbrev pub of_files : Bool → List (List ℕ) → Option PictureAsked
of_files all [] = None
of_files all (word ∷ words) = if is_file_name word then after_file all word words else None

-- the request that the arguments make, if they ask for a picture
abbrev pub picture_asked : List (List ℕ) → Option PictureAsked
picture_asked [] = None
picture_asked (word ∷ words) = if bytes_eq word (codes "--all") then of_files true words else of_files false (word ∷ words)

-- a request as data
abbrev pub picture_asked_of : Request → PictureAsked
picture_asked_of request = record {
  all = request.all;
  file = request.file.now;
  schedule = option_map (λ name. name.now) request.schedule;
  breach = map string_bytes request.breach.now;
}
