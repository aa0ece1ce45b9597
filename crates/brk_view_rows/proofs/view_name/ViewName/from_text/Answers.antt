use Rattle.brk_view_rows.specs.ViewNames.{texts_of_view_names}
use Rattle.brk_view_rows.proofs.Named.{not_named}
use Rattle.brk_view_rows.proofs.view_name.ViewName.from_text.Goals as goal

pub returns-in_default : goal.returns-in_default
returns-in_default c =
    let no = c.in_default in
    not_named c.args.text.now texts_of_view_names (
      no.not-submitted,
      (
        no.not-estimate,
        (
          no.not-customer,
          (
            no.not-taxid,
            (no.not-recent, (no.not-status, (no.not-trades, (no.not-accounttrades, (no.not-symboltrades, (no.not-lots, (no.not-volume, tt))))))),
          ),
        ),
      ),
    )
