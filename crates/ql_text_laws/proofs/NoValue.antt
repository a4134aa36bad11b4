-- no text of a value within the limits begins with the bytes before a fault and what stands there
use Rattle.std.proofs.Common.{◌≡◌, ◌<◌, ◌+◌, ◌-◌, ℕ, zero, suc, Bool, true, false, Ok, Err, List, [], ◌∷◌, ◌++◌, length, take, drop, arith, refl, sym, ap, ◌∙◌, codes, append_assoc, length-append, subst}
use Rattle.std.proofs.Math.Seq.{drop-append_seam, take-append-add, take-append_seam}
use Rattle.ql_base.specs.Bytes.{begins}
use Rattle.ql_value.specs.declared.value.Value.{Value}
use Rattle.ql_value.specs.Reading.{Read, value_at}
use Rattle.ql_value.specs.ValueGrammar.{IsValue, ReadsValue}
use Rattle.ql_value.proofs.ValueLaws.{value_again}
use Rattle.ql_text_laws.specs.ValuePrefixes.{BeginsAs, BeginsValue, EndsValues, IsValueButLast, MayStartItem, item_length, starts_item, starts_number}
use Rattle.ql_text_laws.proofs.Collections.{ValueStart, value_before}
use Rattle.ql_text_laws.proofs.Alike.{byte_same, item_same}
use Rattle.ql_text_laws.proofs.ItemLengths.{item_some}
use Rattle.ql_text_laws.proofs.Stays.{SameItems}
use Rattle.ql_text_laws.proofs.SteadyValues.{value_stays}

no_value : (text : List ℕ) (left : ℕ) (v : Value) → value_at text ≡ Err left → IsValue v → ReadsValue v text [] → ⊥
no_value text left v h fits reads =
    let both : ◌≡◌ {A = Read Value} (Ok (v, [])) (Err left) = sym (value_again v text [] fits refl reads) ∙ h in absurd cc

take_first : (n b : ℕ) (bs : List ℕ) → 0 < n → take n (b ∷ bs) ≡ b ∷ take (n - 1) bs
take_first zero b bs some = absurd (omega arith)
take_first (suc n) b bs some = let e : suc n - 1 ≡ n = omega arith in rw e refl

-- a text parted before what is left
module _ (text pre post : List ℕ) (left : ℕ) (is : text ≡ pre ++ post) (len : length post ≡ left) where
  place : length text - left ≡ length pre
  place = let whole : length text ≡ length (pre ++ post) = ap length is in omega (arith, whole, len, length-append pre post)

  front : take (length text - left) text ≡ pre
  front = ap (λ n. take n text) place ∙ ap (take (length pre)) is ∙ take-append_seam pre post

  back : drop (length text - left) text ≡ post
  back = ap (λ n. drop n text) place ∙ ap (drop (length pre)) is ∙ drop-append_seam pre post

  further : (n : ℕ) → take (length text - left + n) text ≡ pre ++ take n post
  further n = ap (λ k. take (k + n) text) place ∙ ap (take (length pre + n)) is ∙ take-append-add pre post n

  fault_is : value_at text ≡ Err left → value_at (pre ++ post) ≡ Err (length post)
  fault_is h = ap value_at (sym is) ∙ h ∙ ap Err (sym len)

item_by : (text pre post : List ℕ) (left : ℕ) → text ≡ pre ++ post → length post ≡ left → value_at text ≡ Err left → 0 < left → EndsValues text (length text - left)
item_by text pre [] left is len h some = absurd (omega (arith, len, some))
item_by text pre (b ∷ bs) left is len h some = λ v more fits stop reads.
    let n = item_length (b ∷ bs) in
    let cs : List ℕ = take (n - 1) bs ++ more in
    let same : b ∷ cs ≡ take n (b ∷ bs) ++ more = ap (λ t. t ++ more) (sym (take_first n b bs (item_some b bs))) in
    let kept = value_stays b bs cs pre (λ start. item_same b bs cs more (λ t. stop (ap (begins starts_number) (back text pre (b ∷ bs) left is len) ∙ t)) same) (fault_is text pre (b ∷ bs) left is len h) in
    let bytes : take (length text - left + item_length (drop (length text - left) text)) text ≡ pre ++ take n (b ∷ bs) =
    ap (λ t. take (length text - left + item_length t) text) (back text pre (b ∷ bs) left is len) ∙ further text pre (b ∷ bs) left is len n in
    let whole : take (length text - left + item_length (drop (length text - left) text)) text ++ more ≡ pre ++ b ∷ cs =
    ap (λ t. t ++ more) bytes ∙ append_assoc pre (take n (b ∷ bs)) more ∙ ap (λ t. pre ++ t) (sym same) in
    no_value (pre ++ b ∷ cs) (length (b ∷ cs)) v kept fits (subst (λ t. ReadsValue v t []) whole reads)

pub no_item : (text : List ℕ) (left : ℕ) → value_at text ≡ Err left → 0 < left → EndsValues text (length text - left)
no_item text left h some = let b = value_before text left h in item_by text b.pre b.post left b.is b.len h some

module _ (text pre : List ℕ) (b : ℕ) (bs cs : List ℕ) (left : ℕ) (is : text ≡ pre ++ b ∷ bs) (len : length (b ∷ bs) ≡ left) (none : MayStartItem text (length text - left) → ⊥) where
  byte_by : (t : Bool) → starts_item b ≡ t → ValueStart (pre ++ codes "true") → SameItems (b ∷ bs) (b ∷ cs)
  byte_by false e start = byte_same b bs cs e
  byte_by true e start =
      let item : MayStartItem text (length text - left) = (
        subst (λ t. BeginsAs IsValueButLast (t ++ codes "true")) (sym (front text pre (b ∷ bs) left is len)) start,
        ap (begins starts_item) (back text pre (b ∷ bs) left is len) ∙ e,
      ) in
      absurd (none item)

no_byte_by : (text pre post : List ℕ) (left : ℕ) → text ≡ pre ++ post → length post ≡ left → value_at text ≡ Err left → 0 < left → (MayStartItem text (length text - left) → ⊥) → BeginsValue (take (length text - left + 1) text) → ⊥
no_byte_by text pre [] left is len h some none begun = absurd (omega (arith, len, some))
no_byte_by text pre (b ∷ bs) left is len h some none begun =
    let cs : List ℕ = begun.0 in
    let kept = value_stays b bs cs pre (byte_by text pre b bs cs left is len none (starts_item b) refl) (fault_is text pre (b ∷ bs) left is len h) in
    let whole : take (length text - left + 1) text ++ cs ≡ pre ++ b ∷ cs = ap (λ t. t ++ cs) (further text pre (b ∷ bs) left is len 1) ∙ append_assoc pre (b ∷ []) cs in
    no_value (pre ++ b ∷ cs) (length (b ∷ cs)) begun.1 kept begun.2 (subst (λ t. ReadsValue begun.1 t []) whole begun.3)

pub no_byte : (text : List ℕ) (left : ℕ) → value_at text ≡ Err left → 0 < left → (MayStartItem text (length text - left) → ⊥) → BeginsValue (take (length text - left + 1) text) → ⊥
no_byte text left h some none begun = let b = value_before text left h in no_byte_by text b.pre b.post left b.is b.len h some none begun
