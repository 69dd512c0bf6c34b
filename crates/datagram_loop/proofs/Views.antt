-- Views: what is shown of a loop whose peer has more entries, or keeps one more.
use Rattle.std.proofs.Common.{◌≡◌, ℕ, zero, suc, ◌+◌, ◌<◌, ◌≤◌, true, refl, ap, ◌∙◌, List, [], ◌∷◌, ◌++◌, arith, length}
use Rattle.std.specs.Prelude.{Some, take, drop, slice_get}
use Rattle.std.specs.List.{fold}
use Rattle.std.proofs.lemmas.Bool.{eq-eqb, and_from}
use Rattle.std.proofs.lemmas.List.{length-take-le, take-append-le, drop-append-le, drop_more, take-append-drop}
use Rattle.std.proofs.lemmas.List.Sums.{fold_push}
use Rattle.std.proofs.lemmas.Option.{get_or_from_slice_get}
use Rattle.std.proofs.lemmas.Slice.Eq.{bytes_eq-Decides}
use Rattle.std.proofs.Math.Seq.{take-length}
use Rattle.definitions.specs.declared.logs.Entry.{Entry}
use Rattle.socket_station.specs.declared.answers.Addr.{Addr}
use Rattle.peer_core.specs.Views.{PeerState}
use Rattle.session_log.specs.Writing.{Writing, fresh}
use Rattle.session_log.specs.Writing as W
use Rattle.peer_rules.specs.Addresses.{addr_eq}
use Rattle.peer_rules.specs.declared.arrivals.Arrival.{Arrival}
use Rattle.post_rules.specs.Views.{Settling, View}
use Rattle.datagram_loop.specs.States.{LoopState, kept_of, writer_of, view_of}
use Rattle.datagram_loop.proofs.Fits.{take_next}

pub same_addr : (a : Addr) → addr_eq a a ≡ true
same_addr a = and_from _ _ ((bytes_eq-Decides a.ip a.ip).1 refl) (eq-eqb a.port a.port refl)

-- all entries are kept
pub all_kept : (l : LoopState) → l.kept ≡ length l.peer.entries → kept_of l ≡ l.peer.entries
all_kept l e = ap (λ (n : ℕ). take n l.peer.entries) e ∙ take-length l.peer.entries

-- how many are kept
pub few_kept : (l : LoopState) → l.kept ≤ length l.peer.entries → length (kept_of l) ≡ l.kept
few_kept l h = length-take-le l.kept l.peer.entries h

-- the kept ones and the others are all
pub kept_rest : (l : LoopState) → kept_of l ++ drop l.kept l.peer.entries ≡ l.peer.entries
kept_rest l = take-append-drop l.kept l.peer.entries

with_kept : List Arrival → Settling → LoopState → List Entry → View
with_kept w settling l es = record (view_of w settling l) { kept = es; writer = fold W.after (fresh l.peer.game.id l.peer.me) es }

-- the peer has more entries, which are not kept: nothing of that is shown
pub grown_view : (w : List Arrival) (settling : Settling) (l : LoopState) (q : PeerState) (more : List Entry) → q ≡ record l.peer { entries = l.peer.entries ++ more } → l.kept ≤ length l.peer.entries → view_of w settling (record l { peer = q }) ≡ view_of w settling l
unfolding with_kept
grown_view w settling l q more e h =
    ap (λ (x : PeerState). view_of w settling (record l { peer = x })) e
    ∙ ap (with_kept w settling l) (take-append-le l.kept l.peer.entries more h)

pub grown_kept : (l : LoopState) (q : PeerState) (more : List Entry) → q ≡ record l.peer { entries = l.peer.entries ++ more } → l.kept ≤ length l.peer.entries → kept_of (record l { peer = q }) ≡ kept_of l
grown_kept l q more e h = ap (λ (x : PeerState). take l.kept x.entries) e ∙ take-append-le l.kept l.peer.entries more h

pub grown_rest : (l : LoopState) (q : PeerState) (more : List Entry) → q ≡ record l.peer { entries = l.peer.entries ++ more } → l.kept ≤ length l.peer.entries → drop l.kept q.entries ≡ drop l.kept l.peer.entries ++ more
grown_rest l q more e h = ap (λ (x : PeerState). drop l.kept x.entries) e ∙ drop-append-le l.kept l.peer.entries more h

-- one entry more is kept
pub next_view : (w : List Arrival) (settling : Settling) (l : LoopState) (e : Entry) → l.kept < length l.peer.entries → slice_get l.peer.entries l.kept ≡ Some e →
    view_of w settling (record l { kept = l.kept + 1 }) ≡ record (view_of w settling l) { kept = kept_of l ++ e ∷ []; writer = W.after (writer_of l) e }
unfolding with_kept
next_view w settling l e lt g =
    ap (with_kept w settling l) (take_next l.peer.entries l.kept e lt g)
    ∙ ap (λ (x : Writing). record (view_of w settling l) { kept = kept_of l ++ e ∷ []; writer = x }) (fold_push W.after (fresh l.peer.game.id l.peer.me) (kept_of l) e)

pub next_rest : (l : LoopState) (e : Entry) → l.kept < length l.peer.entries → slice_get l.peer.entries l.kept ≡ Some e → drop l.kept l.peer.entries ≡ e ∷ drop (l.kept + 1) l.peer.entries
next_rest l e lt g = drop_more l.peer.entries l.kept e lt ∙ ap (λ (x : Entry). x ∷ drop (l.kept + 1) l.peer.entries) (get_or_from_slice_get l.peer.entries l.kept e e g)

pub there : (es : List Entry) (k : ℕ) → k < length es → (e : Entry) × (slice_get es k ≡ Some e)
there [] k h = absurd (omega (arith, h))
there (x ∷ es) zero h = (x, refl)
there (x ∷ es) (suc k) h = there es k (omega (arith, h))
