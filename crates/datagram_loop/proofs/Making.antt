-- Making: own entries are added to what a loop's peer has.
use Rattle.std.proofs.Common.{◌≡◌, ◌≤◌, refl, sym, ap, subst, ◌∙◌, List, ◌++◌, arith, length}
use Rattle.std.specs.Prelude.{None, take, drop}
use Rattle.std.proofs.lemmas.List.{length-append}
use Rattle.definitions.specs.declared.logs.Entry.{Entry}
use Rattle.definitions.specs.Advance.{next_made}
use Rattle.peer_core.specs.Views.{PeerState}
use Rattle.own_moves.specs.declared.making.Moves.{Moves}
use Rattle.own_moves.specs.Choices.{Chooser, ChoosesBy}
use Rattle.peer_rules.specs.Order.{OwnRun}
use Rattle.own_moves.specs.Making.{MakesAll, is_refused}
use Rattle.peer_rules.specs.declared.arrivals.Arrival.{Arrival}
use Rattle.post_rules.specs.Views.{Settling}
use Rattle.datagram_loop.specs.States.{LoopState, kept_of, view_of}
use Rattle.datagram_loop.specs.Pending.{Explained, IsPending}
use Rattle.datagram_loop.specs.Receiving.{MakesMoves}
use Rattle.datagram_loop.proofs.Pending.{explains_own}
use Rattle.datagram_loop.proofs.Views.{grown_view, grown_kept, grown_rest, kept_rest}

-- from what stands inside
pub makes_moves : (by to : Chooser) (made : Moves) (i l : LoopState) (q : PeerState) → i ≡ l → MakesAll by to made i.peer q → MakesMoves by to made l (record i { peer = q })
makes_moves by to made i l q same w = subst (λ (x : LoopState). MakesMoves by to made x (record i { peer = q })) same (record { makes = w; same = refl })

-- what is pending stays so, with the own entries after it
pub made_pending : (by to : Chooser) (made : Moves) (w : List Arrival) (l m : LoopState) → MakesMoves by to made l m → l.kept ≤ length l.peer.entries → IsPending l w → IsPending m w
made_pending by to made w l m k h p =
    let a = k.makes.adds in
    let q = m.peer in
    let x : Explained l.peer.game l.peer.me (kept_of l) w (drop l.kept l.peer.entries ++ a.more) =
    explains_own l.peer.game l.peer.me (kept_of l) w (drop l.kept l.peer.entries) a.more p (subst (λ (es : List Entry). OwnRun l.peer.game l.peer.me es a.more) (sym (kept_rest l)) a.own) in
    subst (λ (y : LoopState). IsPending y w) (sym k.same)
    (subst (λ (g : PeerState). Explained g.game g.me (take l.kept g.entries) w (drop l.kept g.entries)) (sym a.state)
    (subst (λ (es : List Entry). Explained l.peer.game l.peer.me es w (drop l.kept (l.peer.entries ++ a.more))) (sym (grown_kept l (record l.peer { entries = l.peer.entries ++ a.more }) a.more refl h))
    (subst (λ (es : List Entry). Explained l.peer.game l.peer.me (kept_of l) w es) (sym (grown_rest l (record l.peer { entries = l.peer.entries ++ a.more }) a.more refl h)) x)))

-- and nothing of them is shown
pub made_view : (by to : Chooser) (made : Moves) (w : List Arrival) (settling : Settling) (l m : LoopState) → MakesMoves by to made l m → l.kept ≤ length l.peer.entries → view_of w settling m ≡ view_of w settling l
made_view by to made w settling l m k h = ap (view_of w settling) k.same ∙ grown_view w settling l m.peer k.makes.adds.more k.makes.adds.state h

pub made_game : (by to : Chooser) (made : Moves) (l m : LoopState) → MakesMoves by to made l m → (m.peer.game ≡ l.peer.game) × (m.peer.me ≡ l.peer.me)
made_game by to made l m k = (ap (λ (p : PeerState). p.game) k.makes.adds.state, ap (λ (p : PeerState). p.me) k.makes.adds.state)

pub made_still : (by to : Chooser) (made : Moves) (l m : LoopState) → MakesMoves by to made l m → next_made m.peer.game m.peer.me m.peer.entries ≡ None
made_still by to made l m k = ap (λ (x : PeerState). next_made x.game x.me x.entries) k.makes.adds.state ∙ k.makes.adds.made

pub made_few : (by to : Chooser) (made : Moves) (l m : LoopState) → MakesMoves by to made l m → l.kept ≤ length l.peer.entries → m.kept ≤ length m.peer.entries
made_few by to made l m k h =
    let kept : m.kept ≡ l.kept = ap (λ (x : LoopState). x.kept) k.same in
    let all : length m.peer.entries ≡ length (l.peer.entries ++ k.makes.adds.more) = ap (λ (p : PeerState). length p.entries) k.makes.adds.state in
    let long = length-append l.peer.entries k.makes.adds.more in
    omega (arith, kept, all, long, h)

pub made_choices : (by to : Chooser) (made : Moves) (l m : LoopState) → MakesMoves by to made l m → ChoosesBy l.peer.game l.peer.me by to (is_refused made) l.peer.entries m.peer.entries
made_choices by to made l m k = subst (λ (es : List Entry). ChoosesBy l.peer.game l.peer.me by to (is_refused made) l.peer.entries es) (sym (ap (λ (p : PeerState). p.entries) k.makes.adds.state)) k.makes.adds.choices
