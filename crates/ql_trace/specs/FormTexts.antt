-- What the parts of a line, as they are read, say.
use Rattle.std.specs.Prelude.{ℕ, List, map, Option, None, Some, option_map}
use Rattle.serde_json.specs.Data.{Data}
use Rattle.serde_json.specs.View.{view}
use Rattle.ql_trace.specs.Forms.{FormText, HeadingText, SightText, ValueTexts}
use Rattle.ql_trace.specs.Ids.{id_text}
use Rattle.ql_trace.specs.declared.form.Count.{Count}
use Rattle.ql_trace.specs.declared.form.Form.{Form}
use Rattle.ql_trace.specs.declared.form.Given.{Given}
use Rattle.ql_trace.specs.declared.form.Given.TheVariants as given
use Rattle.ql_trace.specs.declared.form.Heading.{Heading}
use Rattle.ql_trace.specs.declared.form.Part.{Part}
use Rattle.ql_trace.specs.declared.form.Sight.{Sight}
use Rattle.ql_trace.specs.declared.form.Values.{Values}

abbrev pub part_text : Part → List ℕ × List ℕ
part_text p = (id_text p.id, p.name.now)

abbrev pub count_text : Count → List ℕ × ℕ
count_text c = (id_text c.origin, c.count)

abbrev pub heading_text : Heading → HeadingText
heading_text h = record { id = id_text h.id; session = id_text h.session; object = id_text h.object; op = h.op.now; txn = option_map part_text h.txn }

abbrev pub given_texts : Given → Option (List Data)
given_texts given.Nothing = None
given_texts (given.Values items) = Some (map view items.now)

abbrev pub value_texts : Values → ValueTexts
value_texts v = record {
  args = map view v.args.now;
  answer = option_map (λ d. view d.now) v.answer;
  payload = option_map given_texts v.payload;
}

abbrev pub sight_text : Sight → SightText
sight_text s = record {
  vis = option_map (λ ids. map id_text ids.items) s.vis;
  deps = option_map (λ ids. map id_text ids.items) s.deps;
  dot = option_map count_text s.dot;
  clock = option_map (λ counts. map count_text counts.items) s.clock;
}

abbrev pub form_text : Form → FormText
form_text f = record { heading = heading_text f.heading; values = value_texts f.values; sight = sight_text f.sight }
