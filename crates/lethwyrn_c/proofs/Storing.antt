-- Storing: entries are stored one by one.
use Rattle.std.proofs.Common.{◌≡◌, ℕ, ◌+◌, inl, inr, length, refl, sym, ap, ◌∙◌, arith}
use Rattle.peer_core.specs.Views.{PeerState}
use Rattle.lethwyrn_c.specs.Sending.{IsOneStored, IsStoredSoFar, IsStoredTo}
use Rattle.lethwyrn_c.specs.Standings.{Standing, log_front}

pub none_yet : (bytes : ℕ) (s : Standing) → IsStoredSoFar bytes s s
none_yet bytes s = record { same = refl; stays = omega arith; ends_within = inl refl }

pub one_more : (bytes : ℕ) (s t u : Standing) → IsStoredSoFar bytes s t → IsOneStored bytes t u → IsStoredSoFar bytes s u
one_more bytes s t u so one =
    let there = one.there in let long = one.ends_within in let stays = so.stays in
    let stored : u.stored ≡ t.stored + 1 = ap (λ (r : Standing). r.stored) one.goes_on in
    let given : t.given ≡ s.given = ap (λ (r : Standing). r.given) so.same in
    let peer : t.peer ≡ s.peer = ap (λ (r : Standing). r.peer) so.same in
    let here : length (log_front s.peer u.stored) ≡ length (log_front t.peer (t.stored + 1))
    = ap (λ (p : PeerState). length (log_front p u.stored)) (sym peer) ∙ ap (λ n. length (log_front t.peer n)) stored in
    record {
      same = one.goes_on ∙ (ap (λ (r : Standing). record r { stored = t.stored + 1 }) so.same ∙ ap (λ n. record s { stored = n }) (sym stored));
      stays = omega arith;
      ends_within = inr (omega arith, omega arith);
    }

pub no_more : (bytes : ℕ) (s t : Standing) → IsStoredSoFar bytes s t → IsStoredTo bytes t t → IsStoredTo bytes s t
no_more bytes s t so last =
    let given : t.given ≡ s.given = ap (λ (r : Standing). r.given) so.same in
    let peer : t.peer ≡ s.peer = ap (λ (r : Standing). r.peer) so.same in
    let here : length (log_front t.peer (t.stored + 1)) ≡ length (log_front s.peer (t.stored + 1)) = ap (λ (p : PeerState). length (log_front p (t.stored + 1))) peer in
    record {
      same = so.same;
      stays = so.stays;
      ends_within = so.ends_within;
      no_more = elim last.no_more [ inl e ↦ inl (e ∙ given) | inr lt ↦ inr (omega arith) ];
    }
