use Rattle.std.proofs.Common.{◌≡◌, [], ◌∷◌, refl, subst, ◌∙◌}
use Rattle.std.specs.Io.KnownBytes.{Appends}
use Rattle.brk_money.specs.Spelling.{Text}
use Rattle.brk_model.specs.Statement.{text_of_lines}
use Rattle.brk_report_lines.proofs.Composed.{appends_none}
use Rattle.brk_report_lines.proofs.Cut.{cut}
use Rattle.brk_report_lines.proofs.writing.write_lines.Goals as goal

pub returns-in-Err : goal.returns-in-Err
returns-in-Err g c = record { written = λ line lines made. ([], line, lines, refl, appends_none _) }

pub returns-in-Err-write_all_bytes : goal.returns-in-Err-write_all_bytes
returns-in-Err-write_all_bytes g c = record {
  written = λ line lines made.
      let bytes : c.as_slice.result.now ≡ text_of_lines (line ∷ lines) = c.as_slice.ensures.value ∙ (rw c.in-Ok.is at made) in
      let part = c.in-Err-write_all_bytes.ensures.err in
      let pieces = cut line lines part.0 in (
        pieces.0,
        pieces.1,
        pieces.2,
        pieces.3,
        pieces.4,
        subst
            (λ (t : Text). Appends (g.W.Write.contents c.args.writer.now) (g.W.Write.contents c.write_all_bytes.new.writer) t) pieces.5 (rw bytes at part.1),
      );
}

pub returns : goal.returns
returns g c = record {
  written = λ line lines made.
      let bytes : c.as_slice.result.now ≡ text_of_lines (line ∷ lines) = c.as_slice.ensures.value ∙ (rw c.in-Ok.is at made) in
      rw bytes at c.in-Ok-write_all_bytes.ensures.ok;
}
