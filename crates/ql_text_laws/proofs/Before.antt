-- what is known of the bytes before a fault
use Rattle.std.proofs.Common.{◌≡◌, ◌≤◌, ◌-◌, ℕ, List, [], ◌++◌, length, take, arith, refl, sym, ap, ◌∙◌, append_assoc, length-append, subst}
use Rattle.std.proofs.Math.Seq.{take-append_seam}

-- so many bytes are left behind a beginning of the text, of which this holds
pub record Before (Holds : List ℕ → Type 0) (text : List ℕ) (left : ℕ) : Type 0 where
  pub pre : List ℕ
  pub post : List ℕ
  pub is : text ≡ pre ++ post
  pub len : length post ≡ left
  pub holds : Holds pre

-- nothing is before the first byte
pub at_start : (Holds : List ℕ → Type 0) (text : List ℕ) (left : ℕ) → length text ≡ left → Holds [] → Before Holds text left
at_start Holds text left len h = record { pre = []; post = text; is = refl; len = len; holds = h }

-- the fault is in what follows a first part
pub behind : (Holds Holds' : List ℕ → Type 0) (front rest text : List ℕ) (left : ℕ) → text ≡ front ++ rest → ((pre : List ℕ) → Holds pre → Holds' (front ++ pre)) → Before Holds rest left → Before Holds' text left
behind Holds Holds' front rest text left is on b = record {
  pre = front ++ b.pre;
  post = b.post;
  is = is ∙ ap (λ t. front ++ t) b.is ∙ sym (append_assoc front b.pre b.post);
  len = b.len;
  holds = on b.pre b.holds;
}

pub weaker : (Holds Holds' : List ℕ → Type 0) (text : List ℕ) (left : ℕ) → ((pre : List ℕ) → Holds pre → Holds' pre) → Before Holds text left → Before Holds' text left
weaker Holds Holds' text left on b = record { pre = b.pre; post = b.post; is = b.is; len = b.len; holds = on b.pre b.holds }

pub is_inside : (Holds : List ℕ → Type 0) (text : List ℕ) (left : ℕ) → Before Holds text left → left ≤ length text
is_inside Holds text left b = let whole : length text ≡ length (b.pre ++ b.post) = ap length b.is in let at = b.len in omega (arith, whole, at, length-append b.pre b.post)

pub taken : (Holds : List ℕ → Type 0) (text : List ℕ) (left : ℕ) (b : Before Holds text left) → take (length text - left) text ≡ b.pre
taken Holds text left b =
    let whole : length text ≡ length (b.pre ++ b.post) = ap length b.is in
    let at = b.len in
    let before : length text - left ≡ length b.pre = omega (arith, whole, at, length-append b.pre b.post) in
    ap (λ n. take n text) before ∙ ap (λ t. take (length b.pre) t) b.is ∙ take-append_seam b.pre b.post

pub holds_before : (Holds : List ℕ → Type 0) (text : List ℕ) (left : ℕ) → Before Holds text left → Holds (take (length text - left) text)
holds_before Holds text left b = subst Holds (sym (taken Holds text left b)) b.holds
