-- The attributes of elements.
use Rattle.std.specs.Prelude.{ℕ, List, ◌++◌, codes, decimal}
use Rattle.ql_picture.specs.declared.attribute.Attribute.{Attribute}
use Rattle.ql_picture.specs.declared.attribute.Attribute.TheVariants.{X, Y, Width, Height, X1, Y1, X2, Y2, Cx, Cy, R, D}
use Rattle.ql_picture.specs.declared.shape.Point.{Point}

abbrev pub named_text : List ℕ → ℕ → List ℕ
named_text name number = name ++ decimal number ++ codes "\""

abbrev pub point_text : Point → List ℕ
point_text point = decimal point.x ++ codes " " ++ decimal point.y

--  d="M10 20C30 20 40 60 60 60"
abbrev pub curve_text : Point → Point → Point → Point → List ℕ
curve_text from first second to =
    codes " d=\"M" ++ point_text from ++ codes "C" ++ point_text first ++ codes " " ++ point_text second ++ codes " " ++ point_text to ++ codes "\""

abbrev pub attribute_text : Attribute → List ℕ
attribute_text (X n) = named_text (codes " x=\"") n
attribute_text (Y n) = named_text (codes " y=\"") n
attribute_text (Width n) = named_text (codes " width=\"") n
attribute_text (Height n) = named_text (codes " height=\"") n
attribute_text (X1 n) = named_text (codes " x1=\"") n
attribute_text (Y1 n) = named_text (codes " y1=\"") n
attribute_text (X2 n) = named_text (codes " x2=\"") n
attribute_text (Y2 n) = named_text (codes " y2=\"") n
attribute_text (Cx n) = named_text (codes " cx=\"") n
attribute_text (Cy n) = named_text (codes " cy=\"") n
attribute_text (R n) = named_text (codes " r=\"") n
attribute_text (D from first second to) = curve_text from first second to
