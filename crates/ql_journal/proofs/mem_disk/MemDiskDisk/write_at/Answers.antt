use Rattle.std.proofs.Common.{sym, subst}
use Rattle.ql_journal.specs.Bytes.{IsImage}
use Rattle.ql_journal.specs.Marks.{marked_bytes}
use Rattle.ql_journal.proofs.Overwriting.{image}
use Rattle.ql_journal.proofs.mem_disk.MemDiskDisk.write_at.Goals as goal

pub invariant_of-self-2-clause-is_image : goal.invariant_of-self-2-clause-is_image
invariant_of-self-2-clause-is_image c =
    let disk = c.args.self.now in
    subst (λ bytes. IsImage (marked_bytes bytes disk.base.items c.mark.new.marks.items) bytes) (sym c.overwrite.ensures.bytes)
    (image disk.bytes.items disk.base.items c.args.bytes.now disk.dirty.items c.mark.new.marks.items c.args.at (c.requires.begins tt) c.mark.ensures.marked disk.is_image)
