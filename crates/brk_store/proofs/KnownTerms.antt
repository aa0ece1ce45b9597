-- What an index has in memory, as the result of a read.
use Rattle.std.proofs.Common.{◌≡◌, Result, subst, sym}
use Rattle.sqlite_trees.specs.declared.store.Store.{Ghosts}
use Rattle.sqlite.specs.Held.{Held, state}
use Rattle.brk_model.specs.Tables.{Tables}
use Rattle.brk_tables_schema.specs.Made.{HasDeskTables}
use Rattle.brk_store_index.specs.IfMade.{IsIndexIfMade}
use Rattle.brk_store_index.specs.declared.store_index.StoreIndex.{StoreIndex}
use Rattle.brk_store_transactions.specs.Holds.{ReadPost}
use Rattle.brk_store.specs.Indexed.{IndexIsTrue}
use Rattle.brk_store.proofs.TradesByIndex.{told_by_index}
use Rattle.brk_store.proofs.ValuesByIndex.{index_if_made}

-- of a store by another name
pub known_of_tables : {S V E : Type 0} (g : Ghosts S) (conn end store : Held S) (index : StoreIndex) (v : V) {result : Result V E} {tells : V → Tables → Type 0} → conn ≡ store → IndexIsTrue g conn index
    → ((t : Tables) → HasDeskTables t (state g conn).now → IsIndexIfMade index t → tells v t) → ReadPost g conn end result (λ known t. known ≡ v) → ReadPost g store end result tells
known_of_tables g conn end store index v {result} {tells} same is tell read =
    told_by_index g conn end store same result (λ known t. known ≡ v) tells
    (λ clean on t holds k shown. subst (λ x. tells x t) (sym shown) (tell t (holds clean on) (index_if_made index (state g conn).now t (is.indexed clean on) (holds clean on)))) read

pub known_is_read : {S V E : Type 0} (g : Ghosts S) (conn end store : Held S) (index : StoreIndex) (v : V) {result : Result V E} {tells : V → Tables → Type 0} → conn ≡ store → IndexIsTrue g conn index
    → ((t : Tables) → IsIndexIfMade index t → tells v t) → ReadPost g conn end result (λ known t. known ≡ v) → ReadPost g store end result tells
known_is_read g conn end store index v same is tell read = known_of_tables g conn end store index v same is (λ t has made. tell t made) read
