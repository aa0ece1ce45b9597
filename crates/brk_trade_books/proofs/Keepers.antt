-- An accepted record of reference data preserves the books invariant.
use Rattle.std.proofs.Common.{◌≡◌, ◌≤◌, ℕ, ◌==◌, ◌&&◌, Bool, true, false, List, [], ◌∷◌, ◌++◌, refl, sym, ◌∙◌, ap, arith, Option, Some, None}
use Rattle.std.specs.Prelude.{is_some, find, nat_le, bytes_eq}
use Rattle.std.proofs.lemmas.Bool.{eqb-true, eq-eqb}
use Rattle.std.proofs.lemmas.Slice.Eq.{bytes_eq-Decides}
use Rattle.brk_money.specs.Kinds.{is_same_trade_type}
use Rattle.brk_money.specs.Moments.{greatest_stamp}
use Rattle.brk_model.specs.Limits.{greatest_amount}
use Rattle.brk_model.specs.Records.{Broker, Customer, Account, Permission, Security, Charge, Band, TaxRate, CustomerTax, Kept, Key}
use Rattle.brk_model.specs.Base.{Base, broker_with_id, customer_with_id}
use Rattle.brk_model.specs.Commands.{Command, Listing, Reply, AddBroker, AddCustomer, AddAccount, AddPermission, AddSecurity, AddCharge, AddBand, AddTaxRate, AddCustomerTax}
use Rattle.brk_model.specs.Keyed.{base_with_stored_reply}
use Rattle.brk_model.specs.Tests.{checks_of_command, stamp_of_next_command, bands_overlap}
use Rattle.brk_model.specs.Step.{security_of_listing, base_after_command_unstamped}
use Rattle.brk_model.specs.Names.{BrokerOfAccountExists, CustomerOfAccountExists}
use Rattle.brk_trade_books.specs.Books.{BooksInvariant, HasVolumeWithinLimit, HasOrderedBounds, HasDistinctAccountIds, HasDistinctSymbols, HasDistinctPermissions, HasDisjointBands}
use Rattle.brk_trade_books.specs.Steps.{PreservesBooksInvariant}
use Rattle.brk_trade_books.proofs.Bools.{numbers_back, texts_back}
use Rattle.brk_trade_books.proofs.Same.{NonePass, All-map, All-append, any-none, find-more, find-none}
use Rattle.brk_trade_books.proofs.NewKeys.{both, and_both, not_both, same_bytes, same_codes, code_same}
use Rattle.brk_trade_books.proofs.Tested.{passed, in_time, not_not}
use Rattle.brk_trade_books.proofs.Completions.{later_times}
use Rattle.brk_trade_books.proofs.MovementOrder.{holders_more, movements_later}
use Rattle.brk_trade_books.proofs.Steps.{in_order}

pub found_more : {X : Type 0} (p : X → Bool) (xs ys : List X) → is_some (find p xs) ≡ true → is_some (find p (xs ++ ys)) ≡ true
found_more p xs ys h = ap is_some (find-more p xs ys h) ∙ h

-- ---- kinds that the order does not speak of

pub books_last : (base : Base) (now : ℕ) → stamp_of_next_command base now ≤ greatest_stamp → BooksInvariant base → BooksInvariant (record base { last = Some (stamp_of_next_command base now) })
books_last base now h k = record {
  parties = k.parties;
  market = k.market;
  trades = k.trades;
  times = later_times base now h k.times;
  movements = movements_later base now k.movements;
}

pub books_terms : (base : Base) (charges : List Charge) (tax_rates : List TaxRate) (customer_taxes : List CustomerTax) (kept : List Kept) → BooksInvariant base
    → BooksInvariant (record base { charges = charges; tax_rates = tax_rates; customer_taxes = customer_taxes; kept = kept })
books_terms base charges tax_rates customer_taxes kept k = record {
  parties = k.parties;
  market = k.market;
  trades = k.trades;
  times = k.times;
  movements = k.movements;
}

pub books_kept : (base : Base) (key : Option Key) (command : Command) (reply : Reply) → BooksInvariant base → BooksInvariant (base_with_stored_reply key command reply base)
books_kept base None command reply k = k
books_kept base (Some key) command reply k =
    books_terms base base.charges base.tax_rates base.customer_taxes (base_with_stored_reply (Some key) command reply base).kept k

pub books_charge : (base : Base) (now : ℕ) (c : Charge) → PreservesBooksInvariant base now (AddCharge c)
unfolding base_after_command_unstamped
books_charge base now c k e =
    books_last _ now (in_time base now (AddCharge c) e)
    (books_terms base (base.charges ++ c ∷ []) base.tax_rates base.customer_taxes base.kept k)

pub books_tax_rate : (base : Base) (now : ℕ) (r : TaxRate) → PreservesBooksInvariant base now (AddTaxRate r)
unfolding base_after_command_unstamped
books_tax_rate base now r k e =
    books_last _ now (in_time base now (AddTaxRate r) e)
    (books_terms base base.charges (base.tax_rates ++ r ∷ []) base.customer_taxes base.kept k)

pub books_customer_tax : (base : Base) (now : ℕ) (x : CustomerTax) → PreservesBooksInvariant base now (AddCustomerTax x)
unfolding base_after_command_unstamped
books_customer_tax base now x k e =
    books_last _ now (in_time base now (AddCustomerTax x) e)
    (books_terms base base.charges base.tax_rates (base.customer_taxes ++ x ∷ []) base.kept k)

-- ---- permissions

permissions_more : (ps : List Permission) (p : Permission) → NonePass (λ q. (q.account == p.account) && bytes_eq q.tax_id p.tax_id) ps
    → HasDistinctPermissions ps → HasDistinctPermissions (ps ++ p ∷ [])
permissions_more [] p h d = (tt, tt)
permissions_more (q ∷ ps) p h d = (
  All-append (λ r. ((r.account == q.account) && bytes_eq r.tax_id q.tax_id) ≡ false) ps (p ∷ []) d.0
      ((λ i. numbers_back p.account q.account i && texts_back p.tax_id q.tax_id i) ∙ h.0, tt),
  permissions_more ps p h.1 d.1,
)

pub books_permission : (base : Base) (now : ℕ) (p : Permission) → PreservesBooksInvariant base now (AddPermission p)
unfolding base_after_command_unstamped checks_of_command
books_permission base now p k e =
    let f = passed base now (AddPermission p) e in
    record {
      parties = record {
        brokers = k.brokers;
        customers = k.customers;
        owners = k.owners;
        permissions = permissions_more base.permissions p (any-none (λ q. (q.account == p.account) && bytes_eq q.tax_id p.tax_id) base.permissions f.1.0) k.permissions;
      };
      market = k.market;
      trades = k.trades;
      times = later_times base now (in_time base now (AddPermission p) e) k.times;
      movements = movements_later base now k.movements;
    }

-- ---- brokers, customers and accounts

-- the lists that accounts and trades name may have more
pub books_broker : (base : Base) (now : ℕ) (b : Broker) → PreservesBooksInvariant base now (AddBroker b)
unfolding base_after_command_unstamped
books_broker base now b k e = record {
  parties = record {
    brokers = All-map base.accounts (λ a h. found_more (λ x. x.id == a.broker) base.brokers (b ∷ []) h) k.brokers;
    customers = k.customers;
    owners = k.owners;
    permissions = k.permissions;
  };
  market = k.market;
  trades = k.trades;
  times = later_times base now (in_time base now (AddBroker b) e) k.times;
  movements = movements_later base now k.movements;
}

pub books_customer : (base : Base) (now : ℕ) (c : Customer) → PreservesBooksInvariant base now (AddCustomer c)
unfolding base_after_command_unstamped
books_customer base now c k e = record {
  parties = record {
    brokers = k.brokers;
    customers = All-map base.accounts (λ a h. found_more (λ x. x.id == a.customer) base.customers (c ∷ []) h) k.customers;
    owners = k.owners;
    permissions = k.permissions;
  };
  market = k.market;
  trades = k.trades;
  times = later_times base now (in_time base now (AddCustomer c) e) k.times;
  movements = movements_later base now k.movements;
}

owners_more : (bs : List Account) (a : Account) → NonePass (λ b. b.id == a.id) bs → HasDistinctAccountIds bs → HasDistinctAccountIds (bs ++ a ∷ [])
owners_more [] a h d = (tt, tt)
owners_more (b ∷ bs) a h d = (
  All-append (λ c. (c.id == b.id) ≡ false) bs (a ∷ []) d.0 (numbers_back a.id b.id ∙ h.0, tt),
  owners_more bs a h.1 d.1,
)

pub books_account : (base : Base) (now : ℕ) (a : Account) → PreservesBooksInvariant base now (AddAccount a)
unfolding base_after_command_unstamped checks_of_command
books_account base now a k e =
    let p = passed base now (AddAccount a) e in
    record {
      parties = record {
        brokers = All-append (BrokerOfAccountExists base) base.accounts (a ∷ []) k.brokers (not_not (is_some (broker_with_id base a.broker)) p.1.0, tt);
        customers = All-append (CustomerOfAccountExists base) base.accounts (a ∷ []) k.customers (not_not (is_some (customer_with_id base a.customer)) p.0, tt);
        owners = owners_more base.accounts a (find-none (λ x. x.id == a.id) base.accounts p.1.1.0) k.owners;
        permissions = k.permissions;
      };
      market = k.market;
      trades = record {
        accounts = All-map base.trades (λ t h. found_more (λ x. x.id == t.account) base.accounts (a ∷ []) h) k.accounts;
        securities = k.securities;
        numbered = k.numbered;
        ways = k.ways;
        completions = k.completions;
      };
      times = later_times base now (in_time base now (AddAccount a) e) k.times;
      movements = holders_more base.accounts a (movements_later base now k.movements);
    }

-- ---- securities

symbols_more : (ss : List Security) (s : Security) → NonePass (λ u. bytes_eq u.symbol s.symbol) ss → HasDistinctSymbols ss → HasDistinctSymbols (ss ++ s ∷ [])
symbols_more [] s h d = (tt, tt)
symbols_more (u ∷ ss) s h d = (
  All-append (λ v. bytes_eq v.symbol u.symbol ≡ false) ss (s ∷ []) d.0 (texts_back s.symbol u.symbol ∙ h.0, tt),
  symbols_more ss s h.1 d.1,
)

no_volume : 0 ≤ greatest_amount
no_volume = omega arith

pub books_security : (base : Base) (now : ℕ) (l : Listing) → PreservesBooksInvariant base now (AddSecurity l)
unfolding base_after_command_unstamped checks_of_command
books_security base now l k e =
    let p = passed base now (AddSecurity l) e in
    let s : Security = security_of_listing (stamp_of_next_command base now) l in
    record {
      parties = k.parties;
      market = record {
        symbols = symbols_more base.securities s (find-none (λ s. bytes_eq s.symbol l.symbol) base.securities p.0) k.symbols;
        volumes = All-append HasVolumeWithinLimit base.securities (s ∷ []) k.volumes (no_volume, tt);
        bands = k.bands;
        apart = k.apart;
      };
      trades = record {
        accounts = k.accounts;
        securities = All-map base.trades (λ t h. found_more (λ s. bytes_eq s.symbol t.symbol) base.securities (s ∷ []) h) k.securities;
        numbered = k.numbered;
        ways = k.ways;
        completions = k.completions;
      };
      times = later_times base now (in_time base now (AddSecurity l) e) k.times;
      movements = movements_later base now k.movements;
    }

-- ---- bands

-- two bands meet either way round
pub meet_back : (b c : Band) (m : Bool) → bands_overlap c b ≡ m → bands_overlap b c ≡ false → bands_overlap c b ≡ false
meet_back b c false e h = e
meet_back b c true e h =
    let one = both _ (nat_le b.from_qty c.to_qty) e in
    let two = both _ (nat_le c.from_qty b.to_qty) one.0 in
    let three = both _ (bytes_eq c.exchange b.exchange) two.0 in
    let four = both (c.tier == b.tier) (is_same_trade_type c.kind b.kind) three.0 in
    let k : bands_overlap b c ≡ true = and_both _ _ (and_both _ _ (and_both _ _ (and_both _ _
    (eq-eqb b.tier c.tier (sym (eqb-true c.tier b.tier four.0))) (code_same b.kind c.kind (sym (same_codes c.kind b.kind four.1))))
    (same_bytes b.exchange c.exchange (sym ((bytes_eq-Decides c.exchange b.exchange).0 three.1)))) one.1) two.1 in
    absurd (not_both (bands_overlap b c) k h)

apart_more : (bs : List Band) (b : Band) → NonePass (bands_overlap b) bs → HasDisjointBands bs → HasDisjointBands (bs ++ b ∷ [])
apart_more [] b h d = (tt, tt)
apart_more (c ∷ bs) b h d = (
  All-append (λ x. bands_overlap c x ≡ false) bs (b ∷ []) d.0 (meet_back b c (bands_overlap c b) refl h.0, tt),
  apart_more bs b h.1 d.1,
)

pub books_band : (base : Base) (now : ℕ) (b : Band) → PreservesBooksInvariant base now (AddBand b)
unfolding base_after_command_unstamped checks_of_command
books_band base now b k e =
    let p = passed base now (AddBand b) e in
    record {
      parties = k.parties;
      market = record {
        symbols = k.symbols;
        volumes = k.volumes;
        bands = All-append HasOrderedBounds base.bands (b ∷ []) k.bands (in_order b.from_qty b.to_qty p.0, tt);
        apart = apart_more base.bands b (any-none (bands_overlap b) base.bands p.1.0) k.apart;
      };
      trades = k.trades;
      times = later_times base now (in_time base now (AddBand b) e) k.times;
      movements = movements_later base now k.movements;
    }
