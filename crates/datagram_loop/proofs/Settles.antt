-- Passed: what is done between two polls, one after the other.
use Rattle.std.proofs.Common.{◌≡◌, ℕ, Bool, true, false, refl, sym, ap, subst, ◌∙◌, List, [], length}
use Rattle.std.specs.Prelude.{Option, Some, None, not, is_some}
use Rattle.std.proofs.lemmas.Bool.{false≢true}
use Rattle.definitions.specs.World.{Game}
use Rattle.definitions.specs.declared.findings.Finding.{Finding}
use Rattle.definitions.specs.Findings.{is_clean}
use Rattle.definitions.specs.Needs.{may_choose}
use Rattle.definitions.specs.Advance.{next_made}
use Rattle.definition_laws.specs.First.{finding_of_log}
use Rattle.peer_core.specs.Views.{PeerState}
use Rattle.pilots.specs.Plans.{Plan}
use Rattle.datagram_post.specs.Items.{Item}
use Rattle.own_moves.specs.declared.making.Moves.{Moves}
use Rattle.own_moves.specs.declared.making.Moves.TheVariants as M
use Rattle.own_moves.specs.Choices.{Chooser, ChoosesBy}
use Rattle.own_moves.specs.Making.{IsOwnMove, is_refused}
use Rattle.peer_rules.specs.declared.phases.Phase.TheVariants.{Running}
use Rattle.post_rules.specs.Views.{Settling, View, settling_after}
use Rattle.post_rules.specs.Sending.{batch}
use Rattle.post_rules.specs.Histories.{Follows}
use Rattle.post_rules.proofs.Told.{follows_then}
use Rattle.datagram_loop.specs.declared.settling.Settled.{Settled}
use Rattle.datagram_loop.specs.declared.settling.Settled.TheVariants as S
use Rattle.datagram_loop.specs.States.{LoopState, setting_of, view_of, IsReady}
use Rattle.datagram_loop.specs.Keeping.{SyncedSo, KeepsNew}
use Rattle.datagram_loop.specs.Receiving.{taking, Receives}
use Rattle.datagram_loop.specs.Settling.{IsServing, StandsServed, ServedSo, Serves, StandsSettled, Refuses, own_move, Settles}

-- ---- receiving, and then keeping

pub received_running : (by to : Chooser) (made : Moves) (a b : List Item) (l m : LoopState) → IsReady l → Receives by to made a b l m → m.phase ≡ Running
received_running by to made a b l m r k = ap (λ (x : LoopState). x.phase) k.same ∙ r.running

-- all that is new was kept, or that failed
pub record Stored (done : Bool) (by to : Chooser) (made : Moves) (a b c : List Item) (l m n : LoopState) : Type 0 where
  pub receives : Receives by to made a b l m
  pub keeps : KeepsNew done b c m n

stored_peer : (done : Bool) (by to : Chooser) (made : Moves) (a b c : List Item) (l m n : LoopState) → Stored done by to made a b c l m n → n.peer ≡ m.peer
stored_peer done by to made a b c l m n k = ap (λ (x : LoopState). x.peer) k.keeps.same

stored_setting : (done : Bool) (by to : Chooser) (made : Moves) (a b c : List Item) (l m n : LoopState) → Stored done by to made a b c l m n → setting_of n ≡ setting_of l
stored_setting done by to made a b c l m n k =
    ap setting_of k.keeps.same
    ∙ ap (λ (x : LoopState). record { game = m.peer.game; me = m.peer.me; roster = x.roster }) k.receives.same
    ∙ ap (λ (g : Game). record { game = g; me = m.peer.me; roster = l.roster }) k.receives.game.0
    ∙ ap (λ (q : ℕ). record { game = l.peer.game; me = q; roster = l.roster }) k.receives.game.1

stored_choices : (done : Bool) (by to : Chooser) (made : Moves) (a b c : List Item) (l m n : LoopState) → Stored done by to made a b c l m n → ChoosesBy l.peer.game l.peer.me by to (is_refused made) l.peer.entries n.peer.entries
stored_choices done by to made a b c l m n k = subst (λ (p : PeerState). ChoosesBy l.peer.game l.peer.me by to (is_refused made) l.peer.entries p.entries) (sym (stored_peer done by to made a b c l m n k)) k.receives.choices

-- as it was after so many polls
stored_so : (done : Bool) (by to : Chooser) (made : Moves) (a b c : List Item) (l m n : LoopState) (polls : ℕ) → (k : Stored done by to made a b c l m n) →
    SyncedSo done k.receives.waiting (taking polls k.receives.taken k.receives.is_received) b c m n
stored_so done by to made a b c l m n polls k = k.keeps.told k.receives.waiting (taking polls k.receives.taken k.receives.is_received) k.receives.pending refl

stored_follows : (done : Bool) (by to : Chooser) (made : Moves) (a b c : List Item) (l m n : LoopState) (polls : ℕ) → (k : Stored done by to made a b c l m n) →
    Follows (view_of [] (settling_after polls) l) (view_of (stored_so done by to made a b c l m n polls k).waiting (record (taking polls k.receives.taken k.receives.is_received) { is_stored = (stored_so done by to made a b c l m n polls k).is_stored }) n) a c
stored_follows done by to made a b c l m n polls k =
    let s = stored_so done by to made a b c l m n polls k in
    follows_then (view_of [] (settling_after polls) l) (view_of k.receives.waiting (taking polls k.receives.taken k.receives.is_received) m) (view_of s.waiting (record (taking polls k.receives.taken k.receives.is_received) { is_stored = s.is_stored }) n) a b c
    (k.receives.follows polls) s.follows

stored_ready : (by to : Chooser) (made : Moves) (a b c : List Item) (l m n : LoopState) → Stored true by to made a b c l m n → IsReady n
stored_ready by to made a b c l m n k = (let s = stored_so true by to made a b c l m n 0 k in record { running = s.stands.0; kept = s.stands.1; synced = s.stands.2 })

-- ---- it ends there

stored_sure : (done : Bool) (by to : Chooser) (made : Moves) (a b c : List Item) (l m n : LoopState) → Receives by to made a b l m → KeepsNew done b c m n → (d : Bool) → done ≡ d → Stored d by to made a b c l m n
stored_sure done by to made a b c l m n r k d e = record { receives = r; keeps = subst (λ (x : Bool). KeepsNew x b c m n) e k }

-- a keep or a sync failed
pub settles_unkept : (done : Bool) (by to : Chooser) (made : Moves) (a b c : List Item) (l m n : LoopState) → Receives by to made a b l m → KeepsNew done b c m n → done ≡ false → Settles by to S.KeepFault a c l n
settles_unkept done by to made a b c l m n r k e =
    let w = stored_sure done by to made a b c l m n r k false e in
    record {
      setting = stored_setting false by to made a b c l m n w;
      refused = is_refused made;
      refuses = tt;
      choices = stored_choices false by to made a b c l m n w;
      told = λ polls.
          let s = stored_so false by to made a b c l m n polls w in
          record {
            waiting = s.waiting;
            settling = record (taking polls w.receives.taken w.receives.is_received) { is_stored = s.is_stored };
            polls_same = refl;
            follows = stored_follows false by to made a b c l m n polls w;
            stands = s.stands;
          };
    }

ends_own : (by to : Chooser) (made : Moves) (a b c : List Item) (l m n : LoopState) (settled : Settled) → Stored true by to made a b c l m n → own_move made ≡ Some settled → Settles by to settled a c l n
ends_own by to M.Legal a b c l m n settled w e = absurd (cc)
ends_own by to (M.OwnMove turn fault) a b c l m n settled w e =
    let is : S.OwnMove turn fault ≡ settled = cc in
    subst (λ (x : Settled). Settles by to x a c l n) is (record {
      setting = stored_setting true by to (M.OwnMove turn fault) a b c l m n w;
      refused = true;
      refuses = refl;
      choices = stored_choices true by to (M.OwnMove turn fault) a b c l m n w;
      told = λ polls.
          let s = stored_so true by to (M.OwnMove turn fault) a b c l m n polls w in
          record {
            waiting = s.waiting;
            settling = record (taking polls w.receives.taken w.receives.is_received) { is_stored = s.is_stored };
            polls_same = refl;
            follows = stored_follows true by to (M.OwnMove turn fault) a b c l m n polls w;
            stands = (
              record { running = s.stands.0; kept = s.stands.1; synced = s.stands.2 },
              subst (λ (p : PeerState). IsOwnMove by.plan turn fault p) (sym (stored_peer true by to (M.OwnMove turn fault) a b c l m n w)) w.receives.stands,
            );
          };
    })

-- an own move was refused
pub settles_own : (done : Bool) (by to : Chooser) (made : Moves) (a b c : List Item) (l m n : LoopState) (o : Option Settled) (settled : Settled) → Receives by to made a b l m → KeepsNew done b c m n → done ≡ true → o ≡ own_move made → o ≡ Some settled → Settles by to settled a c l n
settles_own done by to made a b c l m n o settled r k e is some = ends_own by to made a b c l m n settled (stored_sure done by to made a b c l m n r k true e) (sym is ∙ some)

made_on : (made : Moves) → own_move made ≡ None → made ≡ M.Legal
made_on M.Legal e = refl
made_on (M.OwnMove turn fault) e = absurd (cc)

-- no own move was refused
pub settles_on : (done : Bool) (by to : Chooser) (made : Moves) (a b c : List Item) (l m n : LoopState) (o : Option Settled) → Receives by to made a b l m → KeepsNew done b c m n → done ≡ true → o ≡ own_move made → o ≡ None → Stored true by to M.Legal a b c l m n
settles_on done by to made a b c l m n o r k e is none =
    subst (λ (x : Moves). Stored true by to x a b c l m n) (made_on made (sym is ∙ none)) (stored_sure done by to made a b c l m n r k true e)

-- the log has a finding
pub settles_caught : (by to : Chooser) (a b c : List Item) (l m n : LoopState) (o : Option Finding) (f : Finding) → Stored true by to M.Legal a b c l m n → o ≡ finding_of_log n.peer.game n.peer.entries → o ≡ Some f → Settles by to (S.Caught f) a c l n
settles_caught by to a b c l m n o f w is some = record {
  setting = stored_setting true by to M.Legal a b c l m n w;
  refused = false;
  refuses = refl;
  choices = stored_choices true by to M.Legal a b c l m n w;
  told = λ polls.
      let s = stored_so true by to M.Legal a b c l m n polls w in
      record {
        waiting = s.waiting;
        settling = record (taking polls w.receives.taken w.receives.is_received) { is_stored = s.is_stored };
        polls_same = refl;
        follows = stored_follows true by to M.Legal a b c l m n polls w;
        stands = (record { running = s.stands.0; kept = s.stands.1; synced = s.stands.2 }, sym is ∙ some);
      };
}

-- ---- the batch is sent

clean_of : (o : Option Finding) (b : Bool) → is_some o ≡ not b → o ≡ None → b ≡ true
clean_of o true e n = refl
clean_of o false e n = absurd (false≢true (sym (ap (λ (x : Option Finding). is_some x) n) ∙ e))

pub settles_serving : (by to : Chooser) (a b c : List Item) (l m n : LoopState) (o : Option Finding) → Stored true by to M.Legal a b c l m n → is_some o ≡ not (is_clean n.peer.game n.peer.entries) → o ≡ None → IsServing n
settles_serving by to a b c l m n o w is none =
    let p = stored_peer true by to M.Legal a b c l m n w in
    record {
      ready = stored_ready by to M.Legal a b c l m n w;
      chosen = subst (λ (x : PeerState). may_choose x.game x.me x.entries ≡ false) (sym p) w.receives.stands;
      made = subst (λ (x : PeerState). next_made x.game x.me x.entries ≡ None) (sym p) w.receives.still;
      clean = clean_of o (is_clean n.peer.game n.peer.entries) is none;
    }

stands_sent : (plan : Option Plan) (settled : Settled) (v : View) (n : LoopState) → IsReady n → StandsServed settled v n → StandsSettled plan settled v n
stands_sent plan S.Idle v n r s = (r, s)
stands_sent plan S.Done v n r s = (r, s.0, s.1, s.2)
stands_sent plan (S.Caught f) v n r s = absurd s
stands_sent plan S.KeepFault v n r s = absurd s
stands_sent plan (S.OwnMove turn fault) v n r s = absurd s

refuses_sent : (settled : Settled) (v : View) (n : LoopState) → StandsServed settled v n → Refuses settled false
refuses_sent S.Idle v n s = refl
refuses_sent S.Done v n s = refl
refuses_sent (S.Caught f) v n s = absurd s
refuses_sent S.KeepFault v n s = absurd s
refuses_sent (S.OwnMove turn fault) v n s = absurd s

sent_so : (by to : Chooser) (a b c d : List Item) (l m n : LoopState) (settled : Settled) (polls : ℕ) → (w : Stored true by to M.Legal a b c l m n) → IsServing n → Serves settled c d n →
    ServedSo settled (stored_so true by to M.Legal a b c l m n polls w).waiting (record (taking polls w.receives.taken w.receives.is_received) { is_stored = (stored_so true by to M.Legal a b c l m n polls w).is_stored }) c d n
sent_so by to a b c d l m n settled polls w i s =
    let k = stored_so true by to M.Legal a b c l m n polls w in
    let p = stored_peer true by to M.Legal a b c l m n w in
    s k.waiting (record (taking polls w.receives.taken w.receives.is_received) { is_stored = k.is_stored }) k.stands.3
    (w.receives.whole (subst (λ (x : PeerState). is_clean x.game x.entries ≡ true) p i.clean)) refl

pub settles_sent : (by to : Chooser) (a b c d : List Item) (l m n : LoopState) (settled : Settled) → Stored true by to M.Legal a b c l m n → IsServing n → Serves settled c d n → Settles by to settled a d l n
settles_sent by to a b c d l m n settled w i s = record {
  setting = stored_setting true by to M.Legal a b c l m n w;
  refused = false;
  refuses = (let k = stored_so true by to M.Legal a b c l m n 0 w in let settling : Settling = record (taking 0 w.receives.taken w.receives.is_received) { is_stored = k.is_stored } in
      refuses_sent settled (view_of k.waiting (record settling { sent = length (batch (view_of k.waiting settling n)) }) n) n (sent_so by to a b c d l m n settled 0 w i s).stands);
  choices = stored_choices true by to M.Legal a b c l m n w;
  told = λ polls.
      let k = stored_so true by to M.Legal a b c l m n polls w in
      let settling : Settling = record (taking polls w.receives.taken w.receives.is_received) { is_stored = k.is_stored } in
      let out : Settling = record settling { sent = length (batch (view_of k.waiting settling n)) } in
      let f = sent_so by to a b c d l m n settled polls w i s in
      record {
        waiting = k.waiting;
        settling = out;
        polls_same = refl;
        follows = follows_then (view_of [] (settling_after polls) l) (view_of k.waiting settling n) (view_of k.waiting out n) a c d (stored_follows true by to M.Legal a b c l m n polls w) f.follows;
        stands = stands_sent by.plan settled (view_of k.waiting out n) n i.ready f.stands;
      };
}
