use Rattle.std.proofs.Common.{inl, inr, refl}
use Rattle.brk_trade_rows.specs.Schemas.{abstract_schema}
use Rattle.brk_audit.proofs.Chain.{form_held, statuses_held, fails, holds}
use Rattle.brk_audit.proofs.audit.audit_rows.Goals as goal

pub meets_requests-requires-clause-form : goal.meets_requests-requires-clause-form
meets_requests-requires-clause-form c =
    form_held (abstract_schema c.args.sheets.now.schema) c.args.sheets.now (holds c.in_ok-meets_form.ensures c.if-not-branch.false)

pub meets_requests-requires-clause-status : goal.meets_requests-requires-clause-status
meets_requests-requires-clause-status c =
    statuses_held (abstract_schema c.args.sheets.now.schema) c.args.sheets.now (holds (c.in_ok-meets_status.ensures (abstract_schema c.args.sheets.now.schema)) c.if-not-branch-2.false)

pub meets_lots-requires-clause-form : goal.meets_lots-requires-clause-form
meets_lots-requires-clause-form c =
    form_held (abstract_schema c.args.sheets.now.schema) c.args.sheets.now (holds c.in_ok-meets_form.ensures c.if-not-branch.false)

pub meets_lots-requires-clause-status : goal.meets_lots-requires-clause-status
meets_lots-requires-clause-status c =
    statuses_held (abstract_schema c.args.sheets.now.schema) c.args.sheets.now (holds (c.in_ok-meets_status.ensures (abstract_schema c.args.sheets.now.schema)) c.if-not-branch-2.false)

pub meets_history-requires-clause-form : goal.meets_history-requires-clause-form
meets_history-requires-clause-form c =
    form_held (abstract_schema c.args.sheets.now.schema) c.args.sheets.now (holds c.in_ok-meets_form.ensures c.if-not-branch.false)

pub meets_history-requires-clause-status : goal.meets_history-requires-clause-status
meets_history-requires-clause-status c =
    statuses_held (abstract_schema c.args.sheets.now.schema) c.args.sheets.now (holds (c.in_ok-meets_status.ensures (abstract_schema c.args.sheets.now.schema)) c.if-not-branch-2.false)

pub meets_summary-requires-clause-form : goal.meets_summary-requires-clause-form
meets_summary-requires-clause-form c =
    form_held (abstract_schema c.args.sheets.now.schema) c.args.sheets.now (holds c.in_ok-meets_form.ensures c.if-not-branch.false)

pub meets_summary-requires-clause-status : goal.meets_summary-requires-clause-status
meets_summary-requires-clause-status c =
    statuses_held (abstract_schema c.args.sheets.now.schema) c.args.sheets.now (holds (c.in_ok-meets_status.ensures (abstract_schema c.args.sheets.now.schema)) c.if-not-branch-2.false)

pub meets_count-requires-clause-form : goal.meets_count-requires-clause-form
meets_count-requires-clause-form c =
    form_held (abstract_schema c.args.sheets.now.schema) c.args.sheets.now (holds c.in_ok-meets_form.ensures c.if-not-branch.false)

pub meets_count-requires-clause-status : goal.meets_count-requires-clause-status
meets_count-requires-clause-status c =
    statuses_held (abstract_schema c.args.sheets.now.schema) c.args.sheets.now (holds (c.in_ok-meets_status.ensures (abstract_schema c.args.sheets.now.schema)) c.if-not-branch-2.false)

pub meets_commission-requires-clause-form : goal.meets_commission-requires-clause-form
meets_commission-requires-clause-form c =
    form_held (abstract_schema c.args.sheets.now.schema) c.args.sheets.now (holds c.in_ok-meets_form.ensures c.if-not-branch.false)

pub meets_commission-requires-clause-status : goal.meets_commission-requires-clause-status
meets_commission-requires-clause-status c =
    statuses_held (abstract_schema c.args.sheets.now.schema) c.args.sheets.now (holds (c.in_ok-meets_status.ensures (abstract_schema c.args.sheets.now.schema)) c.if-not-branch-2.false)

pub meets_settlement-requires-clause-form : goal.meets_settlement-requires-clause-form
meets_settlement-requires-clause-form c =
    form_held (abstract_schema c.args.sheets.now.schema) c.args.sheets.now (holds c.in_ok-meets_form.ensures c.if-not-branch.false)

pub meets_settlement-requires-clause-status : goal.meets_settlement-requires-clause-status
meets_settlement-requires-clause-status c =
    statuses_held (abstract_schema c.args.sheets.now.schema) c.args.sheets.now (holds (c.in_ok-meets_status.ensures (abstract_schema c.args.sheets.now.schema)) c.if-not-branch-2.false)

pub meets_cash-requires-clause-form : goal.meets_cash-requires-clause-form
meets_cash-requires-clause-form c =
    holds c.in_ok-meets_form.ensures c.if-not-branch.false

pub meets_cash-requires-clause-status : goal.meets_cash-requires-clause-status
meets_cash-requires-clause-status c =
    statuses_held (abstract_schema c.args.sheets.now.schema) c.args.sheets.now (holds (c.in_ok-meets_status.ensures (abstract_schema c.args.sheets.now.schema)) c.if-not-branch-2.false)

pub meets_balance-requires-clause-form : goal.meets_balance-requires-clause-form
meets_balance-requires-clause-form c =
    form_held (abstract_schema c.args.sheets.now.schema) c.args.sheets.now (holds c.in_ok-meets_form.ensures c.if-not-branch.false)

pub meets_balance-requires-clause-status : goal.meets_balance-requires-clause-status
meets_balance-requires-clause-status c =
    statuses_held (abstract_schema c.args.sheets.now.schema) c.args.sheets.now (holds (c.in_ok-meets_status.ensures (abstract_schema c.args.sheets.now.schema)) c.if-not-branch-2.false)

pub meets_status-requires : goal.meets_status-requires
meets_status-requires c =
    record { form = form_held (abstract_schema c.args.sheets.now.schema) c.args.sheets.now (holds c.in_ok-meets_form.ensures c.if-not-branch.false) }

pub returns-then-not-branch-clause-condition : goal.returns-then-not-branch-clause-condition
returns-then-not-branch-clause-condition c =
    inr (fails c.in_ok-meets_form.ensures c.if-not-branch.true, refl)

pub returns-then-not-branch-2-clause-condition : goal.returns-then-not-branch-2-clause-condition
returns-then-not-branch-2-clause-condition c =
    inl (
      holds c.in_ok-meets_form.ensures c.if-not-branch.false,
      inr (fails (c.in_ok-meets_status.ensures (abstract_schema c.args.sheets.now.schema)) c.if-not-branch-2.true, refl),
    )

pub returns-then-not-branch-3-clause-condition : goal.returns-then-not-branch-3-clause-condition
returns-then-not-branch-3-clause-condition c =
    inl (
      holds c.in_ok-meets_form.ensures c.if-not-branch.false,
      inl (
        holds (c.in_ok-meets_status.ensures (abstract_schema c.args.sheets.now.schema)) c.if-not-branch-2.false,
        inr (fails (c.in_ok-meets_requests.ensures (abstract_schema c.args.sheets.now.schema)) c.if-not-branch-3.true, refl),
      ),
    )

pub returns-then-not-branch-4-clause-condition : goal.returns-then-not-branch-4-clause-condition
returns-then-not-branch-4-clause-condition c =
    inl (
      holds c.in_ok-meets_form.ensures c.if-not-branch.false,
      inl (
        holds (c.in_ok-meets_status.ensures (abstract_schema c.args.sheets.now.schema)) c.if-not-branch-2.false,
        inl (
          holds (c.in_ok-meets_requests.ensures (abstract_schema c.args.sheets.now.schema)) c.if-not-branch-3.false,
          inr (fails (c.in_ok-meets_lots.ensures (abstract_schema c.args.sheets.now.schema)) c.if-not-branch-4.true, refl),
        ),
      ),
    )

pub returns-then-not-branch-5-clause-condition : goal.returns-then-not-branch-5-clause-condition
returns-then-not-branch-5-clause-condition c =
    inl (
      holds c.in_ok-meets_form.ensures c.if-not-branch.false,
      inl (
        holds (c.in_ok-meets_status.ensures (abstract_schema c.args.sheets.now.schema)) c.if-not-branch-2.false,
        inl (
          holds (c.in_ok-meets_requests.ensures (abstract_schema c.args.sheets.now.schema)) c.if-not-branch-3.false,
          inl (
            holds (c.in_ok-meets_lots.ensures (abstract_schema c.args.sheets.now.schema)) c.if-not-branch-4.false,
            inr (fails (c.in_ok-meets_history.ensures (abstract_schema c.args.sheets.now.schema)) c.if-not-branch-5.true, refl),
          ),
        ),
      ),
    )

pub returns-then-not-branch-6-clause-condition : goal.returns-then-not-branch-6-clause-condition
returns-then-not-branch-6-clause-condition c =
    inl (
      holds c.in_ok-meets_form.ensures c.if-not-branch.false,
      inl (
        holds (c.in_ok-meets_status.ensures (abstract_schema c.args.sheets.now.schema)) c.if-not-branch-2.false,
        inl (
          holds (c.in_ok-meets_requests.ensures (abstract_schema c.args.sheets.now.schema)) c.if-not-branch-3.false,
          inl (
            holds (c.in_ok-meets_lots.ensures (abstract_schema c.args.sheets.now.schema)) c.if-not-branch-4.false,
            inl (
              holds (c.in_ok-meets_history.ensures (abstract_schema c.args.sheets.now.schema)) c.if-not-branch-5.false,
              inr (fails (c.in_ok-meets_summary.ensures (abstract_schema c.args.sheets.now.schema)) c.if-not-branch-6.true, refl),
            ),
          ),
        ),
      ),
    )

pub returns-then-not-branch-7-clause-condition : goal.returns-then-not-branch-7-clause-condition
returns-then-not-branch-7-clause-condition c =
    inl (
      holds c.in_ok-meets_form.ensures c.if-not-branch.false,
      inl (
        holds (c.in_ok-meets_status.ensures (abstract_schema c.args.sheets.now.schema)) c.if-not-branch-2.false,
        inl (
          holds (c.in_ok-meets_requests.ensures (abstract_schema c.args.sheets.now.schema)) c.if-not-branch-3.false,
          inl (
            holds (c.in_ok-meets_lots.ensures (abstract_schema c.args.sheets.now.schema)) c.if-not-branch-4.false,
            inl (
              holds (c.in_ok-meets_history.ensures (abstract_schema c.args.sheets.now.schema)) c.if-not-branch-5.false,
              inl (
                holds (c.in_ok-meets_summary.ensures (abstract_schema c.args.sheets.now.schema)) c.if-not-branch-6.false,
                inr (fails (c.in_ok-meets_count.ensures (abstract_schema c.args.sheets.now.schema)) c.if-not-branch-7.true, refl),
              ),
            ),
          ),
        ),
      ),
    )

pub returns-then-not-branch-8-clause-condition : goal.returns-then-not-branch-8-clause-condition
returns-then-not-branch-8-clause-condition c =
    inl (
      holds c.in_ok-meets_form.ensures c.if-not-branch.false,
      inl (
        holds (c.in_ok-meets_status.ensures (abstract_schema c.args.sheets.now.schema)) c.if-not-branch-2.false,
        inl (
          holds (c.in_ok-meets_requests.ensures (abstract_schema c.args.sheets.now.schema)) c.if-not-branch-3.false,
          inl (
            holds (c.in_ok-meets_lots.ensures (abstract_schema c.args.sheets.now.schema)) c.if-not-branch-4.false,
            inl (
              holds (c.in_ok-meets_history.ensures (abstract_schema c.args.sheets.now.schema)) c.if-not-branch-5.false,
              inl (
                holds (c.in_ok-meets_summary.ensures (abstract_schema c.args.sheets.now.schema)) c.if-not-branch-6.false,
                inl (
                  holds (c.in_ok-meets_count.ensures (abstract_schema c.args.sheets.now.schema)) c.if-not-branch-7.false,
                  inr (fails (c.in_ok-meets_commission.ensures (abstract_schema c.args.sheets.now.schema)) c.if-not-branch-8.true, refl),
                ),
              ),
            ),
          ),
        ),
      ),
    )

pub returns-then-not-branch-9-clause-condition : goal.returns-then-not-branch-9-clause-condition
returns-then-not-branch-9-clause-condition c =
    inl (
      holds c.in_ok-meets_form.ensures c.if-not-branch.false,
      inl (
        holds (c.in_ok-meets_status.ensures (abstract_schema c.args.sheets.now.schema)) c.if-not-branch-2.false,
        inl (
          holds (c.in_ok-meets_requests.ensures (abstract_schema c.args.sheets.now.schema)) c.if-not-branch-3.false,
          inl (
            holds (c.in_ok-meets_lots.ensures (abstract_schema c.args.sheets.now.schema)) c.if-not-branch-4.false,
            inl (
              holds (c.in_ok-meets_history.ensures (abstract_schema c.args.sheets.now.schema)) c.if-not-branch-5.false,
              inl (
                holds (c.in_ok-meets_summary.ensures (abstract_schema c.args.sheets.now.schema)) c.if-not-branch-6.false,
                inl (
                  holds (c.in_ok-meets_count.ensures (abstract_schema c.args.sheets.now.schema)) c.if-not-branch-7.false,
                  inl (
                    holds (c.in_ok-meets_commission.ensures (abstract_schema c.args.sheets.now.schema)) c.if-not-branch-8.false,
                    inr (fails (c.in_ok-meets_settlement.ensures (abstract_schema c.args.sheets.now.schema)) c.if-not-branch-9.true, refl),
                  ),
                ),
              ),
            ),
          ),
        ),
      ),
    )

pub returns-then-not-branch-10-clause-condition : goal.returns-then-not-branch-10-clause-condition
returns-then-not-branch-10-clause-condition c =
    inl (
      holds c.in_ok-meets_form.ensures c.if-not-branch.false,
      inl (
        holds (c.in_ok-meets_status.ensures (abstract_schema c.args.sheets.now.schema)) c.if-not-branch-2.false,
        inl (
          holds (c.in_ok-meets_requests.ensures (abstract_schema c.args.sheets.now.schema)) c.if-not-branch-3.false,
          inl (
            holds (c.in_ok-meets_lots.ensures (abstract_schema c.args.sheets.now.schema)) c.if-not-branch-4.false,
            inl (
              holds (c.in_ok-meets_history.ensures (abstract_schema c.args.sheets.now.schema)) c.if-not-branch-5.false,
              inl (
                holds (c.in_ok-meets_summary.ensures (abstract_schema c.args.sheets.now.schema)) c.if-not-branch-6.false,
                inl (
                  holds (c.in_ok-meets_count.ensures (abstract_schema c.args.sheets.now.schema)) c.if-not-branch-7.false,
                  inl (
                    holds (c.in_ok-meets_commission.ensures (abstract_schema c.args.sheets.now.schema)) c.if-not-branch-8.false,
                    inl (
                      holds (c.in_ok-meets_settlement.ensures (abstract_schema c.args.sheets.now.schema)) c.if-not-branch-9.false,
                      inr (fails c.in_ok-meets_cash.ensures c.if-not-branch-10.true, refl),
                    ),
                  ),
                ),
              ),
            ),
          ),
        ),
      ),
    )

pub returns-then-not-branch-11-clause-condition : goal.returns-then-not-branch-11-clause-condition
returns-then-not-branch-11-clause-condition c =
    inl (
      holds c.in_ok-meets_form.ensures c.if-not-branch.false,
      inl (
        holds (c.in_ok-meets_status.ensures (abstract_schema c.args.sheets.now.schema)) c.if-not-branch-2.false,
        inl (
          holds (c.in_ok-meets_requests.ensures (abstract_schema c.args.sheets.now.schema)) c.if-not-branch-3.false,
          inl (
            holds (c.in_ok-meets_lots.ensures (abstract_schema c.args.sheets.now.schema)) c.if-not-branch-4.false,
            inl (
              holds (c.in_ok-meets_history.ensures (abstract_schema c.args.sheets.now.schema)) c.if-not-branch-5.false,
              inl (
                holds (c.in_ok-meets_summary.ensures (abstract_schema c.args.sheets.now.schema)) c.if-not-branch-6.false,
                inl (
                  holds (c.in_ok-meets_count.ensures (abstract_schema c.args.sheets.now.schema)) c.if-not-branch-7.false,
                  inl (
                    holds (c.in_ok-meets_commission.ensures (abstract_schema c.args.sheets.now.schema)) c.if-not-branch-8.false,
                    inl (
                      holds (c.in_ok-meets_settlement.ensures (abstract_schema c.args.sheets.now.schema)) c.if-not-branch-9.false,
                      inl (
                        holds c.in_ok-meets_cash.ensures c.if-not-branch-10.false,
                        inr (fails (c.in_ok-meets_balance.ensures (abstract_schema c.args.sheets.now.schema)) c.if-not-branch-11.true, refl),
                      ),
                    ),
                  ),
                ),
              ),
            ),
          ),
        ),
      ),
    )

pub returns-clause-condition : goal.returns-clause-condition
returns-clause-condition c =
    inl (
      holds c.in_ok-meets_form.ensures c.if-not-branch.false,
      inl (
        holds (c.in_ok-meets_status.ensures (abstract_schema c.args.sheets.now.schema)) c.if-not-branch-2.false,
        inl (
          holds (c.in_ok-meets_requests.ensures (abstract_schema c.args.sheets.now.schema)) c.if-not-branch-3.false,
          inl (
            holds (c.in_ok-meets_lots.ensures (abstract_schema c.args.sheets.now.schema)) c.if-not-branch-4.false,
            inl (
              holds (c.in_ok-meets_history.ensures (abstract_schema c.args.sheets.now.schema)) c.if-not-branch-5.false,
              inl (
                holds (c.in_ok-meets_summary.ensures (abstract_schema c.args.sheets.now.schema)) c.if-not-branch-6.false,
                inl (
                  holds (c.in_ok-meets_count.ensures (abstract_schema c.args.sheets.now.schema)) c.if-not-branch-7.false,
                  inl (
                    holds (c.in_ok-meets_commission.ensures (abstract_schema c.args.sheets.now.schema)) c.if-not-branch-8.false,
                    inl (
                      holds (c.in_ok-meets_settlement.ensures (abstract_schema c.args.sheets.now.schema)) c.if-not-branch-9.false,
                      inl (
                        holds c.in_ok-meets_cash.ensures c.if-not-branch-10.false,
                        inl (
                          holds (c.in_ok-meets_balance.ensures (abstract_schema c.args.sheets.now.schema)) c.if-not-branch-11.false,
                          refl,
                        ),
                      ),
                    ),
                  ),
                ),
              ),
            ),
          ),
        ),
      ),
    )
