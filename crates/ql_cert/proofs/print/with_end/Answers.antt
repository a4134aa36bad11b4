use Rattle.ql_lines.specs.Texts.{file_text}
use Rattle.ql_cert.proofs.Plainness.{again}
use Rattle.ql_cert.proofs.Printing.{titled_end}
use Rattle.ql_cert.proofs.print.with_end.Goals as goal

pub returns : goal.returns
unfolding file_text
returns c = record {
  text = c.in_ok-push_bytes.ensures.ok;
  cert = λ ss before. titled_end ss c.args.text.items c.push_bytes.new.out.items before c.in_ok-push_bytes.ensures.ok;
  again = λ ss before spelled. again ss c.push_bytes.new.out.items (titled_end ss c.args.text.items c.push_bytes.new.out.items before c.in_ok-push_bytes.ensures.ok) spelled;
}
