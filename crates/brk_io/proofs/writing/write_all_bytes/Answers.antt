use Rattle.std.proofs.Common.{arith}
use Rattle.std.proofs.KnownBytes.{Appends-trans}
use Rattle.std.proofs.lemmas.List.{length-drop, length-take}
use Rattle.brk_io.proofs.Bytes.{take_on}
use Rattle.brk_io.proofs.writing.write_all_bytes.Goals as goal

pub loop-at-preserved : goal.loop-at-preserved
loop-at-preserved g c =
    let bound = simp (length-take, length-drop) at c.in-Ok.ensures.bound in
    record {
      inside = omega (arith, bound);
      written = rw (take_on c.loop-at.at c.in-Ok.n c.args.bytes.now) (Appends-trans _ _ _ _ _ c.loop-at.invariant.written c.in-Ok.ensures.bytes);
    }
