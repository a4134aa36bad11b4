-- the order of scalars is total, and tells all scalars apart
use Rattle.std.proofs.Common.{◌≡◌, Bool, true, false, ap, refl}
use Rattle.std.specs.Cmp.{IsTotalOrder, bool_cmp_total}
use Rattle.std.specs.Ordering.{bool_cmp, ordering_reverse}
use Rattle.std.proofs.lemmas.Cmp.{int_cmp_total, nat_list_cmp_total}
use Rattle.std.proofs.lemmas.Map.Lookups.{exact_signed, exact_bytes}
use Rattle.std.specs.declared.cmp.Ordering.TheVariants.{Less, Equal}
use Rattle.ql_value.specs.declared.scalar.Scalar.{Scalar}
use Rattle.ql_value.specs.declared.scalar.Scalar.TheVariants.{Int, Bool as Truth, Text}
use Rattle.ql_value.specs.Order.{scalar_cmp, key_cmp}

antisymm : (x y : Scalar) → scalar_cmp x y ≡ ordering_reverse (scalar_cmp y x)
antisymm (Int a) (Int b) = int_cmp_total.antisymm a b
antisymm (Int a) (Truth b) = refl
antisymm (Int a) (Text b) = refl
antisymm (Truth a) (Int b) = refl
antisymm (Truth a) (Truth b) = bool_cmp_total.antisymm a b
antisymm (Truth a) (Text b) = refl
antisymm (Text a) (Int b) = refl
antisymm (Text a) (Truth b) = refl
antisymm (Text a) (Text b) = nat_list_cmp_total.antisymm a b

trans : (x y z : Scalar) → scalar_cmp x y ≡ Less → scalar_cmp y z ≡ Less → scalar_cmp x z ≡ Less
trans (Int a) (Int b) (Int c) h k = int_cmp_total.trans a b c h k
trans (Int a) y (Truth c) h k = refl
trans (Int a) y (Text c) h k = refl
trans (Int a) (Truth b) (Int c) h k = cc
trans (Int a) (Text b) (Int c) h k = cc
trans (Truth a) (Truth b) (Truth c) h k = bool_cmp_total.trans a b c h k
trans (Truth a) (Truth b) (Int c) h k = cc
trans (Truth a) (Int b) z h k = cc
trans (Truth a) y (Text c) h k = refl
trans (Truth a) (Text b) (Int c) h k = cc
trans (Truth a) (Text b) (Truth c) h k = cc
trans (Text a) (Text b) (Text c) h k = nat_list_cmp_total.trans a b c h k
trans (Text a) (Text b) (Int c) h k = cc
trans (Text a) (Text b) (Truth c) h k = cc
trans (Text a) (Int b) z h k = cc
trans (Text a) (Truth b) z h k = cc

congr : (x y z : Scalar) → scalar_cmp x y ≡ Equal → scalar_cmp x z ≡ scalar_cmp y z
congr (Int a) (Int b) (Int c) h = int_cmp_total.congr a b c h
congr (Int a) (Int b) (Truth c) h = refl
congr (Int a) (Int b) (Text c) h = refl
congr (Int a) (Truth b) z h = cc
congr (Int a) (Text b) z h = cc
congr (Truth a) (Truth b) (Truth c) h = bool_cmp_total.congr a b c h
congr (Truth a) (Truth b) (Int c) h = refl
congr (Truth a) (Truth b) (Text c) h = refl
congr (Truth a) (Int b) z h = cc
congr (Truth a) (Text b) z h = cc
congr (Text a) (Text b) (Text c) h = nat_list_cmp_total.congr a b c h
congr (Text a) (Text b) (Int c) h = refl
congr (Text a) (Text b) (Truth c) h = refl
congr (Text a) (Int b) z h = cc
congr (Text a) (Truth b) z h = cc

pub scalars_total : IsTotalOrder scalar_cmp
scalars_total = record { antisymm = antisymm; trans = trans; congr = congr }

pub keys_total : IsTotalOrder key_cmp
keys_total = record {
  antisymm = λ x y. antisymm x.0 y.0;
  trans = λ x y z h k. trans x.0 y.0 z.0 h k;
  congr = λ x y z h. congr x.0 y.0 z.0 h;
}

exact_bool : (a b : Bool) → bool_cmp a b ≡ Equal → a ≡ b
exact_bool false false h = refl
exact_bool false true h = cc
exact_bool true false h = cc
exact_bool true true h = refl

-- scalars that compare as equal are equal
pub exact : (x y : Scalar) → scalar_cmp x y ≡ Equal → x ≡ y
exact (Int a) (Int b) h = ap Int (exact_signed a b h)
exact (Int a) (Truth b) h = cc
exact (Int a) (Text b) h = cc
exact (Truth a) (Int b) h = cc
exact (Truth a) (Truth b) h = ap Truth (exact_bool a b h)
exact (Truth a) (Text b) h = cc
exact (Text a) (Int b) h = cc
exact (Text a) (Truth b) h = cc
exact (Text a) (Text b) h = ap Text (exact_bytes a b h)
