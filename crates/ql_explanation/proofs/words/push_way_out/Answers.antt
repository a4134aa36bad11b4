use Rattle.ql_explanation.proofs.Texts.{named_twice}
use Rattle.ql_explanation.proofs.words.push_way_out.Goals as goal

pub returns : goal.returns
returns c =
    named_twice c.args.out.now.items c.push_bytes.new.out.items c.push_bytes-2.new.out.items c.push_bytes-3.new.out.items c.push_bytes-4.new.out.items c.push_bytes-5.new.out.items c.push_bytes-6.new.out.items _ c.args.name.now _ _ _ _ _
    c.push_bytes-6.result c.in_ok-push_bytes.ensures.ok c.in_ok-push_bytes-2.ensures.ok c.in_ok-push_bytes-3.ensures.ok c.as_bytes.ensures.value c.in_ok-push_bytes-4.ensures.ok c.in_ok-push_bytes-5.ensures.ok c.push_bytes-6.ensures.ok
    c.as_bytes-2.ensures.value
