-- The elements of SVG that a picture has.
use Rattle.std.specs.Prelude.{ℕ, List, ◌++◌, codes}
use Rattle.std.specs.List.{flat_map}
use Rattle.ql_picture.specs.Attributes.{attribute_text}
use Rattle.ql_picture.specs.Escapes.{escaped}
use Rattle.ql_picture.specs.Styles.{style_text}
use Rattle.ql_picture.specs.declared.attribute.Attribute.{Attribute}
use Rattle.ql_picture.specs.declared.element.Tag.{Tag}
use Rattle.ql_picture.specs.declared.element.Tag.TheVariants.{Rect, Line, Path, Text, Circle}
use Rattle.ql_picture.specs.declared.kind.Style.{Style}

abbrev pub opening : Tag → List ℕ
opening Rect = codes "<rect class=\""
opening Line = codes "<line class=\""
opening Path = codes "<path class=\""
opening Text = codes "<text class=\""
opening Circle = codes "<circle class=\""

abbrev pub middle : Tag → List ℕ
middle Circle = codes "><title>"
middle _ = codes ">"

abbrev pub closing : Tag → List ℕ
closing Rect = codes "</rect>\n"
closing Line = codes "</line>\n"
closing Path = codes "</path>\n"
closing Text = codes "</text>\n"
closing Circle = codes "</title></circle>\n"

-- <text class="call o0" x="10" y="20">deposit (5)</text>
abbrev pub element_text : Tag → Style → List Attribute → List ℕ → List ℕ
element_text tag style attributes text =
    opening tag ++ style_text style ++ codes "\"" ++ flat_map attribute_text attributes ++ middle tag ++ flat_map escaped text ++ closing tag
