use Rattle.std.proofs.Common.{◌≡◌, ◌∷◌, [], ◌++◌, length, map, sym, ap, subst, ◌∙◌, append_assoc, arith}
use Rattle.std.proofs.lemmas.List.{map_push}
use Rattle.std.specs.Vec.Iter.{into_iter_items}
use Rattle.brk_ref.specs.declared.key.Kept as typed
use Rattle.brk_ref.specs.Records.{abstract_key, abstract_kept_row}
use Rattle.brk_tables_schema.specs.Cells.{kept_cells}
use Rattle.brk_tables_scan.proofs.decoder.decode_keys_of_kept_rows.Goals as goal

pub loop-row-preserved : goal.loop-row-preserved
loop-row-preserved c =
    let at = c.loop-row in
    let was = at.invariant in
    let one = c.in_ok-decode_kept_key.ensures.value in
    let rest = into_iter_items c.next.new.self in
    let steps : into_iter_items at.row-iterator ≡ c.in-Some.row ∷ rest = c.in-Some.ensures.steps.0 in
    let left = subst (λ l. map (λ (r : typed.Kept). kept_cells (abstract_kept_row r)) was.0 ++ l ≡ into_iter_items c.into_iter-row-iterator.result) steps was.1 in
    let cells = map_push (λ (r : typed.Kept). kept_cells (abstract_kept_row r)) was.0 one.0 ∙ ap (λ r. map (λ (r : typed.Kept). kept_cells (abstract_kept_row r)) was.0 ++ r ∷ []) one.1 in (
      was.0 ++ one.0 ∷ [],
      ap (λ l. l ++ rest) cells ∙ append_assoc (map (λ (r : typed.Kept). kept_cells (abstract_kept_row r)) was.0) (c.in-Some.row ∷ []) rest ∙ left,
      map_push (λ (r : typed.Kept). abstract_key r.key) was.0 one.0
          ∙ ap (λ l. l ++ abstract_key one.0.key ∷ []) was.2
          ∙ ap (λ k. map abstract_key at.all.items ++ k ∷ []) one.2
          ∙ sym (map_push abstract_key at.all.items c.in_ok-decode_kept_key.field-0)
          ∙ ap (map abstract_key) (sym c.in_ok-push.ensures.items),
      let len = was.3 in
          let gone = c.in-Some.ensures.steps.1 in
          let short = ap length steps in
          omega arith,
    )
