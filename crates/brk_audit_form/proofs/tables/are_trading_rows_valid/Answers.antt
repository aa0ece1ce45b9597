use Rattle.std.proofs.Common.{◌∙◌, refl, inl, inr}
use Rattle.brk_audit_form.proofs.Joined.{joined_test, joined_if_true, joined_if_false, of_items}
use Rattle.brk_audit_form.proofs.tables.are_trading_rows_valid.Goals as goal
use Rattle.brk_audit_form.proofs.tables.are_trading_rows_valid.Goals.{then-are_valid_rows, else-are_valid_rows, then-are_valid_rows-2, else-are_valid_rows-2}
use Rattle.brk_audit_form.proofs.tables.are_trading_rows_valid.Goals.{then-are_valid_rows-3, else-are_valid_rows-3, then-are_valid_rows-4, else-are_valid_rows-4}
use Rattle.brk_audit_form.proofs.tables.are_trading_rows_valid.Goals.{then-are_valid_rows-5, else-are_valid_rows-5}

pub are_valid_rows-requires : goal.are_valid_rows-requires
are_valid_rows-requires c = c.requires

pub are_valid_rows-requires-then-are_valid_rows : goal.are_valid_rows-requires-then-are_valid_rows
are_valid_rows-requires-then-are_valid_rows c = c.requires

pub are_valid_rows-requires-then-are_valid_rows-2 : goal.are_valid_rows-requires-then-are_valid_rows-2
are_valid_rows-requires-then-are_valid_rows-2 c = c.requires

pub are_valid_rows-requires-then-are_valid_rows-3 : goal.are_valid_rows-requires-then-are_valid_rows-3
are_valid_rows-requires-then-are_valid_rows-3 c = c.requires

pub are_valid_rows-requires-then-are_valid_rows-4 : goal.are_valid_rows-requires-then-are_valid_rows-4
are_valid_rows-requires-then-are_valid_rows-4 c = c.requires

pub are_valid_rows-requires-then-are_valid_rows-5 : goal.are_valid_rows-requires-then-are_valid_rows-5
are_valid_rows-requires-then-are_valid_rows-5 c = c.requires

pub are_valid_rows-requires-then-are_valid_rows-6 : goal.are_valid_rows-requires-then-are_valid_rows-6
are_valid_rows-requires-then-are_valid_rows-6 c = c.requires

pub returns-then-are_valid_rows-6 : goal.returns-then-are_valid_rows-6
returns-then-are_valid_rows-6 c =
    joined_if_true (joined_test (joined_test (joined_test (joined_test (joined_test (of_items _ c.are_valid_rows.ensures c.deref.ensures.value
    )
    (elim c.if-are_valid_rows.branch [
      | then-are_valid_rows w ↦ inl (
        w.if-are_valid_rows.true,
        w.value-is ∙ of_items _ w.are_valid_rows-then-are_valid_rows.ensures w.deref-then-are_valid_rows.ensures.value,
      )
      | else-are_valid_rows w ↦ inr (w.if-are_valid_rows.false, w.value-is)
    ])
    )
    (elim c.if-are_valid_rows-2.branch [
      | then-are_valid_rows-2 w ↦ inl (
        w.if-are_valid_rows-2.true,
        w.value-is ∙ of_items _ w.are_valid_rows-then-are_valid_rows-2.ensures w.deref-then-are_valid_rows-2.ensures.value,
      )
      | else-are_valid_rows-2 w ↦ inr (w.if-are_valid_rows-2.false, w.value-is)
    ])
    )
    (elim c.if-are_valid_rows-3.branch [
      | then-are_valid_rows-3 w ↦ inl (
        w.if-are_valid_rows-3.true,
        w.value-is ∙ of_items _ w.are_valid_rows-then-are_valid_rows-3.ensures w.deref-then-are_valid_rows-3.ensures.value,
      )
      | else-are_valid_rows-3 w ↦ inr (w.if-are_valid_rows-3.false, w.value-is)
    ])
    )
    (elim c.if-are_valid_rows-4.branch [
      | then-are_valid_rows-4 w ↦ inl (
        w.if-are_valid_rows-4.true,
        w.value-is ∙ of_items _ w.are_valid_rows-then-are_valid_rows-4.ensures w.deref-then-are_valid_rows-4.ensures.value,
      )
      | else-are_valid_rows-4 w ↦ inr (w.if-are_valid_rows-4.false, w.value-is)
    ])
    )
    (elim c.if-are_valid_rows-5.branch [
      | then-are_valid_rows-5 w ↦ inl (
        w.if-are_valid_rows-5.true,
        w.value-is ∙ of_items _ w.are_valid_rows-then-are_valid_rows-5.ensures w.deref-then-are_valid_rows-5.ensures.value,
      )
      | else-are_valid_rows-5 w ↦ inr (w.if-are_valid_rows-5.false, w.value-is)
    ])) c.if-are_valid_rows-6.true
    (of_items _ c.are_valid_rows-then-are_valid_rows-6.ensures c.deref-then-are_valid_rows-6.ensures.value)

pub returns-else-are_valid_rows-6 : goal.returns-else-are_valid_rows-6
returns-else-are_valid_rows-6 c =
    joined_if_false _
    (joined_test (joined_test (joined_test (joined_test (joined_test (of_items _ c.are_valid_rows.ensures c.deref.ensures.value
    )
    (elim c.if-are_valid_rows.branch [
      | then-are_valid_rows w ↦ inl (
        w.if-are_valid_rows.true,
        w.value-is ∙ of_items _ w.are_valid_rows-then-are_valid_rows.ensures w.deref-then-are_valid_rows.ensures.value,
      )
      | else-are_valid_rows w ↦ inr (w.if-are_valid_rows.false, w.value-is)
    ])
    )
    (elim c.if-are_valid_rows-2.branch [
      | then-are_valid_rows-2 w ↦ inl (
        w.if-are_valid_rows-2.true,
        w.value-is ∙ of_items _ w.are_valid_rows-then-are_valid_rows-2.ensures w.deref-then-are_valid_rows-2.ensures.value,
      )
      | else-are_valid_rows-2 w ↦ inr (w.if-are_valid_rows-2.false, w.value-is)
    ])
    )
    (elim c.if-are_valid_rows-3.branch [
      | then-are_valid_rows-3 w ↦ inl (
        w.if-are_valid_rows-3.true,
        w.value-is ∙ of_items _ w.are_valid_rows-then-are_valid_rows-3.ensures w.deref-then-are_valid_rows-3.ensures.value,
      )
      | else-are_valid_rows-3 w ↦ inr (w.if-are_valid_rows-3.false, w.value-is)
    ])
    )
    (elim c.if-are_valid_rows-4.branch [
      | then-are_valid_rows-4 w ↦ inl (
        w.if-are_valid_rows-4.true,
        w.value-is ∙ of_items _ w.are_valid_rows-then-are_valid_rows-4.ensures w.deref-then-are_valid_rows-4.ensures.value,
      )
      | else-are_valid_rows-4 w ↦ inr (w.if-are_valid_rows-4.false, w.value-is)
    ])
    )
    (elim c.if-are_valid_rows-5.branch [
      | then-are_valid_rows-5 w ↦ inl (
        w.if-are_valid_rows-5.true,
        w.value-is ∙ of_items _ w.are_valid_rows-then-are_valid_rows-5.ensures w.deref-then-are_valid_rows-5.ensures.value,
      )
      | else-are_valid_rows-5 w ↦ inr (w.if-are_valid_rows-5.false, w.value-is)
    ])) c.if-are_valid_rows-6.false refl
