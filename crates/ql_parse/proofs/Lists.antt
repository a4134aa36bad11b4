-- How a list is read, whatever it consists of.
use Rattle.std.proofs.Common.{◌≡◌, ◌<◌, ◌≤◌, List, [], ◌∷◌, ◌++◌, true, false, length, sym, ap, ◌∙◌, arith}
use Rattle.ql_grammar.specs.declared.terminal.Terminal.{Terminal}
use Rattle.ql_grammar.specs.declared.role.Role.TheVariants.{Plain}
use Rattle.ql_grammar.specs.Table.{Sym, Word, Do, Then, Rest, Value, way_on}
use Rattle.ql_grammar.specs.Machine.{Reading, read, is_ahead, is_begun}
use Rattle.ql_grammar.proofs.Choices.{read-do}
use Rattle.ql_grammar.proofs.Rules.{then-on, then-past}
use Rattle.ql_parse.specs.declared.fault.Refusal.{Refusal}
use Rattle.ql_parse.specs.Readings.{AreRefused, GaveAll, Listing, Missed, Passed}

-- what is read after a token that didn't come next
pub stays : {k : Terminal} {mid new : Reading} → Missed k mid new → (below : List Sym) (vs : List Value) → read mid below vs ≡ read new below vs
stays missed below vs = ap (λ r. read r below vs) (sym missed.same)

module _ {A B : Type 0} {want item : List Sym → List Sym} {l : Rest} {value : B → Value} {keep : B → A} {list : List A → Value} where
  -- nothing was read of it yet
  pub begins : {old r : Reading} (start : List Value → List Value) → ((below : List Sym) (vs : List Value) → read old (want below) vs ≡ read r (item (Do start ∷ Then l ∷ below)) vs)
      → ((x : B) (vs : List Value) → start (value x ∷ vs) ≡ list (keep x ∷ []) ∷ vs) → length r.tokens ≤ length old.tokens → Listing want item l value keep list [] old r
  begins start opens first within = record { so_far = λ below vs. (start, vs, opens below vs, λ x. first x vs); within = within }

  -- an item is refused, and so is the list
  pub item_refused : {items : List A} {old r : Reading} (e : Refusal) → Listing want item l value keep list items old r → AreRefused item r e → AreRefused want old e
  item_refused e so refused f is below vs = let s = so.so_far below vs in s.2 ∙ refused f is (Do s.0 ∷ Then l ∷ below) s.1

  module _ {items : List A} {old r : Reading} (so : Listing want item l value keep list items old r) (mid : Reading) (x : B) (gave : GaveAll item (value x) r mid) where
    -- an item was read, and more may follow
    pub read_item : (below : List Sym) (vs : List Value) → read old (want below) vs ≡ read mid (Then l ∷ below) (list (items ++ keep x ∷ []) ∷ vs)
    read_item below vs =
        let s = so.so_far below vs in
        s.2 ∙ gave (Do s.0 ∷ Then l ∷ below) s.1 ∙ read-do mid s.0 (Then l ∷ below) (value x ∷ s.1) ∙ ap (λ ws. read mid (Then l ∷ below) ws) (s.3 x)

    -- nothing follows
    pub read_last : ((below : List Sym) → is_begun (way_on l below) mid.tokens ≡ false) → (below : List Sym) (vs : List Value) → read old (want below) vs ≡ read mid below (list (items ++ keep x ∷ []) ∷ vs)
    read_last ends below vs = read_item below vs ∙ then-past mid l below (list (items ++ keep x ∷ []) ∷ vs) (ends below)

    -- one more follows
    pub read_more : (add : List Value → List Value) → ((below : List Sym) → way_on l below ≡ item (Do add ∷ Then l ∷ below)) → ((y : B) (xs : List A) (vs : List Value) → add (value y ∷ list xs ∷ vs) ≡ list (xs ++ keep y ∷ []) ∷ vs)
        → ((below : List Sym) → is_begun (way_on l below) mid.tokens ≡ true) → length mid.tokens < length r.tokens → Listing want item l value keep list (items ++ keep x ∷ []) old mid
    read_more add on adds goes shorter = record {
      so_far = λ below vs. (
        add,
        list (items ++ keep x ∷ []) ∷ vs,
        read_item below vs ∙ then-on mid l below (list (items ++ keep x ∷ []) ∷ vs) (goes below) ∙ ap (λ st. read mid st (list (items ++ keep x ∷ []) ∷ vs)) (on below),
        λ y. adds y (items ++ keep x ∷ []) vs,
      );
      within = omega (arith, shorter, so.within);
    }

    module _ {k : Terminal} {new : Reading} where
      -- the mark that stands between two items doesn't follow
      pub read_all : Missed k mid new → ((below : List Sym) → is_begun (way_on l below) mid.tokens ≡ is_ahead k mid.tokens) → (below : List Sym) (vs : List Value) → read old (want below) vs ≡ read new below (list (items ++ keep x ∷ []) ∷ vs)
      read_all missed mark below vs = read_last (λ under. mark under ∙ missed.misses) below vs ∙ stays missed below (list (items ++ keep x ∷ []) ∷ vs)

      -- it follows, and one more item after it
      pub read_mark : Passed k mid new → (add : List Value → List Value) → ((below : List Sym) → way_on l below ≡ Word k Plain ∷ item (Do add ∷ Then l ∷ below)) → ((y : B) (xs : List A) (vs : List Value) → add (value y ∷ list xs ∷ vs) ≡ list (xs ++ keep y ∷ []) ∷ vs)
          → length mid.tokens < length r.tokens → length new.tokens ≤ length mid.tokens → Listing want item l value keep list (items ++ keep x ∷ []) old new
      read_mark passed add on adds shorter within = record {
        so_far = λ below vs. (
          add,
          list (items ++ keep x ∷ []) ∷ vs,
          read_item below vs ∙ then-on mid l below (list (items ++ keep x ∷ []) ∷ vs) (ap (λ st. is_begun st mid.tokens) (on below) ∙ passed.sees)
              ∙ ap (λ st. read mid st (list (items ++ keep x ∷ []) ∷ vs)) (on below) ∙ passed.took _ _,
          λ y. adds y (items ++ keep x ∷ []) vs,
        );
        within = omega (arith, shorter, within, so.within);
      }
