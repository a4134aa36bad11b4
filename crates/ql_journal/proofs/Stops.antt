-- How a run of calls goes on, and what stops in it may leave.
use Rattle.std.proofs.Common.{inl, inr, ⊎_elim, ℕ, List, arith}
use Rattle.ql_journal.specs.Bytes.{DiskBytes, IsImage}
use Rattle.ql_journal.specs.Moments.{Elapses, LeavesOnly}

module _ {D : Type 0} (moment : D → ℕ) (left_since : D → ℕ → List ℕ → Type 0) where
  -- before the first call
  pub started : (first : D) (P : List ℕ → Type 0) → ((image : List ℕ) → left_since first (moment first) image → P image) → LeavesOnly moment left_since first first P
  started first P here = record { later = omega arith; each = here; before = λ t image le left. inl left }

  -- one call more
  pub goes_on : (first mid last : D) (P : List ℕ → Type 0) (disk : DiskBytes) → LeavesOnly moment left_since first mid P
      → Elapses (moment mid) (moment last) (left_since mid) (left_since last) disk
      → ((image : List ℕ) → IsImage disk image → P image) → LeavesOnly moment left_since first last P
  goes_on first mid last P disk so_far time here = record {
    later = omega (arith, so_far.later, time.later);
    each = λ image left. ⊎_elim (so_far.each image) (here image) (time.nothing_else (moment first) image so_far.later left);
    before = λ t image le left. ⊎_elim (so_far.before t image le) (λ now. inr (here image now)) (time.nothing_else t image (omega (arith, le, so_far.later)) left);
  }

  -- a run behind another
  pub joined : (first mid last : D) (P Q : List ℕ → Type 0) → LeavesOnly moment left_since first mid P → LeavesOnly moment left_since mid last Q
      → ((image : List ℕ) → Q image → P image) → LeavesOnly moment left_since first last P
  joined first mid last P Q one two within = record {
    later = omega (arith, one.later, two.later);
    each = λ image left. ⊎_elim (one.each image) (within image) (two.before (moment first) image one.later left);
    before = λ t image le left. ⊎_elim (one.before t image le) (λ now. inr (within image now)) (two.before t image (omega (arith, le, one.later)) left);
  }

  -- a run whose images have more
  pub weaker : (first last : D) (P Q : List ℕ → Type 0) → LeavesOnly moment left_since first last P → ((image : List ℕ) → P image → Q image) → LeavesOnly moment left_since first last Q
  weaker first last P Q run more = record {
    later = run.later;
    each = λ image left. more image (run.each image left);
    before = λ t image le left. ⊎_elim (λ past. inl past) (λ now. inr (more image now)) (run.before t image le left);
  }
