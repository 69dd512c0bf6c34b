-- Settled: a socket is served, and where none is open another dialled.
use Rattle.std.proofs.Common.{◌≡◌, ℕ, Bool, true, false, refl, sym, ap, ◌∙◌, List}
use Rattle.std.specs.Prelude.{◌&&◌, ◌||◌, not}
use Rattle.std.proofs.lemmas.Bool.{and_from, false≢true}
use Rattle.station.specs.Shelves.{ShelfState}
use Rattle.socket_station.specs.Items.{Item}
use Rattle.deposit_rules.specs.declared.phases.DepositPhase.TheVariants.{Giving}
use Rattle.deposit_rules.specs.Views.{View}
use Rattle.deposit_rules.specs.Rules as L
use Rattle.live_deposit.specs.declared.settling.Settled.{Settled}
use Rattle.live_deposit.specs.declared.settling.Settled.TheVariants as S
use Rattle.live_deposit.specs.Logs.{log_of}
use Rattle.live_deposit.specs.Reading.{Dials, may_dial}
use Rattle.live_deposit.specs.Sending.{Settles, StandsSettled, is_shelf_failed}
use Rattle.live_deposit.specs.Serving.{Serves, StandsServed}
use Rattle.live_deposit.proofs.Asking.{for_later}
use Rattle.live_deposit.proofs.Served.{for_goes, for_then}

-- a socket is open, or the logger was dialled
or_left : (o d : Bool) → (not o && not d) ≡ false → (o || d) ≡ true
or_left true d e = refl
or_left false true e = refl
or_left false false e = absurd (false≢true (sym e))

or_right : (o d : Bool) → d ≡ true → (o || d) ≡ true
or_right true d e = refl
or_right false d e = e

licensed : (log : List ℕ) (w : View) → w.phase ≡ Giving → (w.line.is_open || w.is_dialled) ≡ true → StandsServed log S.Idle w → L.is_licensed log w ≡ true
licensed log w giving reached s = and_from _ _ (and_from _ _ (and_from _ _ (ap L.is_giving giving) reached) s.0) (ap not s.1)

settled_so : (log : List ℕ) (r : Settled) (w : View) → w.phase ≡ Giving → (w.line.is_open || w.is_dialled) ≡ true → StandsServed log r w → StandsSettled log r w
settled_so log S.Idle w giving reached s = licensed log w giving reached s
settled_so log S.Sent w giving reached s = s
settled_so log S.ShelfFault w giving reached s = tt

pub settle_still : (name : List ℕ) (a b : List Item) (s t : ShelfState) (v w : View) (may : Bool) → Serves name S.Idle a b s t v w → may ≡ may_dial w → may ≡ false → Settles name S.Idle a b s t v w
settle_still name a b s t v w may g is off = record {
  more = g.goes.more;
  grew = g.goes.grew;
  giving = g.giving;
  asks = g.goes.asks;
  told = g.goes.told;
  stands = λ content all. licensed (log_of content) w g.giving (or_left w.line.is_open w.is_dialled (sym is ∙ off)) (g.stands content all);
}

pub settle_dialled : (name : List ℕ) (a b c d : List Item) (s t u : ShelfState) (v w x y : View) (r : Settled) → Serves name S.Idle a b s t v w → Dials b c w x → Serves name r c d t u x y → Settles name r a d s u v y
settle_dialled name a b c d s t u v w x y r g k h =
    let on = for_then 0 0 0 name (is_shelf_failed r) b c d t t u w x y refl (for_goes 0 name b c t w x k.goes) h.goes in
    let all = for_then 0 0 0 name (is_shelf_failed r) a b d s t u v w y refl g.goes on in
    record {
      more = all.more;
      grew = all.grew;
      giving = h.giving;
      asks = all.asks;
      told = all.told;
      stands = for_later s t u (λ (log : List ℕ). StandsSettled log r y) g.goes.asks.grows h.goes.asks.grows
          (λ content given. settled_so (log_of content) r y h.giving (or_right y.line.is_open y.is_dialled (h.dialled ∙ k.dialled)) (h.stands content given));
    }
