-- Seeing: what a poll sees, one more at a time.
use Rattle.std.proofs.Common.{◌≡◌, ℕ, ◌+◌, ◌<◌, ◌==◌, ◌^◌, true, false, List, [], ◌∷◌, ◌++◌, length, take, get_or, min, refl, sym, ap, ◌∙◌, arith}
use Rattle.std.specs.Prelude.{nat_lt}
use Rattle.std.proofs.lemmas.Bool.{lt-ltb}
use Rattle.std.proofs.lemmas.Bool.Decides.{nat_tests}
use Rattle.std.proofs.lemmas.List.{take_more}
use Rattle.std.proofs.lemmas.List.Sums.{fold-append}
use Rattle.socket_station.specs.declared.answers.Ready.{Ready}
use Rattle.machine_host.specs.declared.hosts.TheConstants.{LISTENER}
use Rattle.station_mio.specs.declared.pace.TheConstants.{PAUSE}
use Rattle.station_mio.specs.Rows.{Stand}
use Rattle.station_mio.specs.Waiting.{patience_for, patience_of}
use Rattle.station_mio.specs.Listing.{Seen, listed_all_lost, listed_lost, ready_on, report}

-- one more that may be lost
pub lost_more : (list : List Ready) (stands : List Stand) (i : ℕ) (s : Stand) → i < length stands → get_or stands i s ≡ s →
    listed_lost (listed_all_lost list (take i stands)) s ≡ listed_all_lost list (take (i + 1) stands)
lost_more list stands i s lt e =
    sym (ap (λ (x : List Stand). listed_all_lost list x) (take_more stands i s lt ∙ ap (λ (x : Stand). take i stands ++ x ∷ []) e) ∙ fold-append listed_lost list (take i stands) (s ∷ []))

-- a token of a socket
pub token_read : (a b : Seen) (n token : ℕ) → (token ≡ LISTENER → ⊥) → token < 2 ^ 32 → n ≡ token → b ≡ ready_on a n → b ≡ report a token
token_read a b n token other few same e =
    let x : (token == LISTENER) ≡ false = grind (arith, nat_tests) in
    let y : nat_lt token (2 ^ 32) ≡ true = lt-ltb token (2 ^ 32) few in
    e ∙ ap (λ (m : ℕ). ready_on a m) same ∙ rw x (rw y refl)

-- one more for whose sake a poll may wait
pub patience_more : (now : ℕ) (stands : List Stand) (i : ℕ) (s : Stand) → i < length stands → get_or stands i s ≡ s →
    min (patience_of now (take i stands)) (patience_for now s) ≡ patience_of now (take (i + 1) stands)
patience_more now stands i s lt e =
    sym (ap (λ (x : List Stand). patience_of now x) (take_more stands i s lt ∙ ap (λ (x : Stand). take i stands ++ x ∷ []) e) ∙ fold-append (λ (least : ℕ) (stand : Stand). min least (patience_for now stand)) PAUSE (take i stands) (s ∷ []))
