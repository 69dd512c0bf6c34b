-- Fair: in every run of calls on a handle the log is an honest one of its session.
use Rattle.std.proofs.Common.{◌≡◌, ℕ, ◌≤◌, set, Bool, true, false, List, [], ◌∷◌, ◌++◌, length, refl, sym, ap, ◌∙◌, subst}
use Rattle.std.specs.Prelude.{Option, Some, None, is_none, nat_le, if◌then◌else◌}
use Rattle.definitions.specs.declared.answers.OwnFault.{OwnFault}
use Rattle.definitions.specs.declared.frames.TurnFrame.{TurnFrame}
use Rattle.definitions.specs.declared.logs.Entry.{Entry}
use Rattle.definitions.specs.declared.logs.Entry.TheVariants.{Chose, Got}
use Rattle.definitions.specs.declared.world.Move.{Move}
use Rattle.definitions.specs.World.{players_of}
use Rattle.definitions.specs.Honest.{IsHonest}
use Rattle.definitions.specs.Logs.{chosen}
use Rattle.definitions.specs.Needs.{choice_fault}
use Rattle.definitions.specs.Steps.{is_taken_in}
use Rattle.definition_laws.proofs.Advances.{advance_honest}
use Rattle.definition_laws.proofs.ForPeers.{honest_empty, honest_push}
use Rattle.definition_laws.proofs.Stepping.{taken_allowed}
use Rattle.grid_world.proofs.Reveals.{ahead_least}
use Rattle.grid_world.specs.Sessions.{IsSession}
use Rattle.peer_core.proofs.Replaying.{this_turn}
use Rattle.peer_core.specs.Views.{PeerState}
use Rattle.wire_frames.specs.declared.frames.FedWhat.{FedWhat}
use Rattle.wire_frames.specs.declared.frames.FedWhat.TheVariants.{More, Whole, Bad}
use Rattle.wire_frames.specs.declared.frames.Frame.TheVariants.{Hello, Turn, Want}
use Rattle.wire_frames.specs.Reading.{at_start}
use Rattle.lethwyrn_c.specs.Calls as C
use Rattle.lethwyrn_c.specs.Heard as H
use Rattle.lethwyrn_c.specs.Standings.{Standing}
use Rattle.lethwyrn_c.specs.Runs.{begun, went_on, chose, heard_bytes, relinked, advanced, took_log, stored_to, took_frame, sends_from, IsFair, RunsAreFair}

abbrev IsHonestPeer : PeerState → Type 0
IsHonestPeer p = IsHonest p.game p.me p.entries

-- the log with a choice that isn't refused
choice_fair : (m : Move) (nonce : List ℕ) (p : PeerState) → 1 ≤ p.game.ahead → IsHonestPeer p → (o : Option OwnFault) → choice_fault p.game p.me p.entries m ≡ o → IsHonest p.game p.me (C.with_choice m nonce p o)
choice_fair m nonce p d h None is =
    honest_push p.game p.me p.entries (Chose (length (chosen p.me p.entries)) m (record { bytes = nonce })) h (this_turn p.game p.me p.entries m (record { bytes = nonce }) d h ∙ ap is_none is)
choice_fair m nonce p d h (Some fault) is = h

-- the log with a frame that is taken in
got_fair : (p : PeerState) (from : ℕ) (f : TurnFrame) → IsHonestPeer p → (b : Bool) → is_taken_in p.game p.me p.entries from f ≡ b → IsHonest p.game p.me (if b then p.entries ++ Got from f ∷ [] else p.entries)
got_fair p from f h true is = honest_push p.game p.me p.entries (Got from f) h (taken_allowed p.game p.me from p.entries f is)
got_fair p from f h false is = h

heard_fair : (from : ℕ) (p : PeerState) → IsHonestPeer p → (what : FedWhat) → IsHonest p.game p.me (H.heard from p what)
heard_fair from p h More = h
heard_fair from p h (Bad place) = h
heard_fair from p h (Whole (Hello id player pass next)) = h
heard_fair from p h (Whole (Want place)) = h
heard_fair from p h (Whole (Turn f)) = got_fair p from f h (is_taken_in p.game p.me p.entries from f) refl

behind_fair : (from : ℕ) (bytes : List ℕ) (s : Standing) → IsFair s → (o : Option ℕ) → IsFair (H.unless o (H.behind_frame from s (H.step_of from bytes s)) s)
behind_fair from bytes s k None = record { session = k.session; honest = heard_fair from s.peer k.honest (H.step_of from bytes s).fed.what }
behind_fair from bytes s k (Some code) = k

linked_fair : (player : ℕ) (s : Standing) → IsFair s → (b : Bool) → IsFair (if b then s else record s { links = set s.links player at_start })
linked_fair player s k true = k
linked_fair player s k false = record { session = k.session; honest = k.honest }

-- the peer is the same
fair_of : (s t : Standing) → t.peer ≡ s.peer → IsFair s → IsFair t
fair_of s t e k = record { session = subst (λ (p : PeerState). IsSession p.game) (sym e) k.session; honest = subst IsHonestPeer (sym e) k.honest }

pub runs_fair : RunsAreFair
runs_fair u all most (begun text player s is) =
    record { session = is.read.session; honest = subst (λ (es : List Entry). IsHonest s.peer.game s.peer.me es) (sym is.entries) (honest_empty s.peer.game s.peer.me) }
runs_fair u all most (went_on text player log s is) =
    record { session = is.read.session; honest = subst (λ (me : ℕ). IsHonest s.peer.game me s.peer.entries) (sym is.on.me) is.on.honest }
runs_fair u all most (chose m nonce s taken named r) =
    let k = runs_fair s taken named r in
    record { session = k.session; honest = choice_fair m nonce s.peer (ahead_least s.peer.game k.session) k.honest (choice_fault s.peer.game s.peer.me s.peer.entries m) refl }
runs_fair u all most (heard_bytes from bytes s taken named r) = behind_fair from bytes s (runs_fair s taken named r) (H.refusal from bytes s)
runs_fair u all most (relinked player s taken named r) = linked_fair player s (runs_fair s taken named r) (nat_le (players_of s.peer.game) player)
runs_fair u all most (advanced s taken named r) =
    let k = runs_fair s taken named r in
    record { session = k.session; honest = advance_honest s.peer.game s.peer.me s.peer.entries k.honest }
runs_fair u all most (took_log bytes s t taken named r is) = fair_of s t (ap (λ (q : Standing). q.peer) is.goes_on) (runs_fair s taken named r)
runs_fair u all most (stored_to bytes s t taken named r is) = fair_of s t (ap (λ (q : Standing). q.peer) is.same) (runs_fair s taken named r)
runs_fair u all most (took_frame bytes s t taken named r is) = fair_of s t (ap (λ (q : Standing). q.peer) is.goes_on) (runs_fair s taken named r)
runs_fair u all most (sends_from place s taken named r) = let k = runs_fair s taken named r in record { session = k.session; honest = k.honest }
