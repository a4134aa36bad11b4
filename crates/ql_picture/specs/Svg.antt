-- The text of a picture in SVG.
use Rattle.std.specs.Prelude.{ℕ, List, [], ◌∷◌, ◌++◌, codes, decimal}
use Rattle.std.specs.List.{flat_map}
use Rattle.ql_picture.specs.Elements.{element_text}
use Rattle.ql_picture.specs.declared.attribute.Attribute.{Attribute}
use Rattle.ql_picture.specs.declared.attribute.Attribute.TheVariants.{X, Y, Width, Height, X1, Y1, X2, Y2, Cx, Cy, R, D}
use Rattle.ql_picture.specs.declared.element.Tag.TheVariants as tag
use Rattle.ql_picture.specs.declared.picture.Picture.{Picture}
use Rattle.ql_picture.specs.declared.shape.Dot.{Dot}
use Rattle.ql_picture.specs.declared.shape.Point.{Point}
use Rattle.ql_picture.specs.declared.shape.Shape.{Shape}
use Rattle.ql_picture.specs.declared.shape.Shape.TheVariants.{Rect, Line, Curve, Label}

abbrev pub sides : Point → Point → List Attribute
sides corner size = X corner.x ∷ Y corner.y ∷ Width size.x ∷ Height size.y ∷ []

abbrev pub ends : Point → Point → List Attribute
ends from to = X1 from.x ∷ Y1 from.y ∷ X2 to.x ∷ Y2 to.y ∷ []

abbrev pub shape_text : Shape → List ℕ
shape_text (Rect style corner size) = element_text tag.Rect style (sides corner size) []
shape_text (Line style from to) = element_text tag.Line style (ends from to) []
shape_text (Curve style from first second to) = element_text tag.Path style (D from first second to ∷ []) []
shape_text (Label style at text) = element_text tag.Text style (X at.x ∷ Y at.y ∷ []) text.items

-- a circle of radius 11
abbrev pub dot_text : Dot → List ℕ
dot_text dot = element_text tag.Circle dot.style (Cx dot.at.x ∷ Cy dot.at.y ∷ R 11 ∷ []) dot.title.items

unfoldable pub svg_name : List ℕ
svg_name = codes "<svg xmlns=\"http://www.w3.org/2000/svg\""

abbrev pub sides_text : ℕ → ℕ → List ℕ
sides_text width height = codes " width=\"" ++ decimal width ++ (codes "\" height=\"" ++ decimal height)

abbrev pub view_text : ℕ → ℕ → List ℕ
view_text width height = codes "\" viewBox=\"0 0 " ++ decimal width ++ (codes " " ++ decimal height) ++ codes "\">\n"

-- <svg xmlns="http://www.w3.org/2000/svg" width="400" height="300" viewBox="0 0 400 300">
abbrev pub sized : ℕ → ℕ → List ℕ
sized width height = svg_name ++ sides_text width height ++ view_text width height

abbrev pub svg_text : List ℕ → Picture → List ℕ
svg_text sheet picture =
    sized picture.width picture.height ++ sheet
    ++ flat_map shape_text picture.under.items ++ flat_map dot_text picture.dots.items ++ flat_map shape_text picture.above.items
    ++ codes "</svg>\n"
