-- Taken: a datagram came and is heard, or none came.
use Rattle.std.proofs.Common.{◌≡◌, inl, inr, ℕ, ◌+◌, ◌<◌, ◌≤◌, Bool, true, false, refl, sym, ap, subst, ◌∙◌, List, [], ◌∷◌, ◌++◌, append-nil, arith, length}
use Rattle.std.specs.Prelude.{Option, Some, None, not, take, drop, ◌==◌, if◌then◌else◌}
use Rattle.std.proofs.lemmas.Bool.{and_from, and_parts, eq-eqb, ne_eqb, false≢true}
use Rattle.definitions.specs.declared.frames.TurnFrame.{TurnFrame}
use Rattle.definitions.specs.declared.logs.Entry.{Entry}
use Rattle.definitions.specs.declared.logs.Entry.TheVariants.{Got}
use Rattle.definitions.specs.World.{Game}
use Rattle.definitions.specs.Steps.{is_taken_in}
use Rattle.definitions.specs.Logs.{chosen}
use Rattle.definitions.specs.Needs.{may_choose}
use Rattle.definitions.specs.Advance.{next_made}
use Rattle.definitions.specs.Findings.{is_clean}
use Rattle.definition_laws.proofs.Chosen.{chosen_push}
use Rattle.peer_core.specs.Views.{PeerState, with_got}
use Rattle.pilots.specs.Plans.{Plan}
use Rattle.letters.specs.declared.letter.Letter.{Letter}
use Rattle.letters.specs.Reading.{letter_in}
use Rattle.datagram_post.specs.Items.{Item, Took}
use Rattle.own_moves.specs.declared.making.Moves.{Moves}
use Rattle.own_moves.specs.Choices.{Chooser, ChoosesBy}
use Rattle.own_moves.specs.Making.{StandsAs, are_legal, is_refused}
use Rattle.own_moves.proofs.Adding.{legal_is}
use Rattle.own_moves.proofs.Choices.{chose_none, chose_then}
use Rattle.peer_rules.specs.Phases.{is_running}
use Rattle.peer_rules.specs.declared.arrivals.Arrival.{Arrival}
use Rattle.post_rules.specs.declared.limits.TheConstants.{MOST_DATAGRAMS}
use Rattle.post_rules.specs.declared.partners.Partner.{Partner}
use Rattle.post_rules.specs.declared.drops.Cause.{Cause}
use Rattle.post_rules.specs.declared.drops.Cause.TheVariants as C
use Rattle.post_rules.specs.declared.drops.Drops.{Drops}
use Rattle.std.proofs.lemmas.List.{length-append}
use Rattle.post_rules.specs.Views.{Settling, View, settling_after}
use Rattle.post_rules.specs.Hearing.{is_good, cause_of, brought_by, heard, heard_if, heard_letter, counted, received}
use Rattle.post_rules.specs.Handling.{is_new_to}
use Rattle.post_rules.specs.After.{after}
use Rattle.post_rules.specs.Rules.{is_allowed, may_receive}
use Rattle.post_rules.specs.Histories.{Follows}
use Rattle.post_rules.proofs.Told.{follows_still, follows_one, follows_then, follows_to}
use Rattle.datagram_loop.specs.States.{LoopState, kept_of, view_of, offered, heard_by, dropped_by, hears_if, hears, IsReady}
use Rattle.datagram_loop.specs.Pending.{Explained, IsPending}
use Rattle.datagram_loop.specs.Receiving.{MakesMoves, BringsNone, ReceivesOne, StepsOn, Steps, taking, goes_on, Receives}
use Rattle.datagram_loop.proofs.Fits.{offered_more}
use Rattle.datagram_loop.proofs.Views.{few_kept, grown_view, grown_kept, grown_rest, kept_rest}
use Rattle.datagram_loop.proofs.Pending.{explains_old, explains_new}
use Rattle.datagram_loop.proofs.Making.{made_pending, made_view, made_game, made_still, made_few, made_choices}

-- ---- a frame is offered

-- the frames that a letter brings
abbrev pub brought : Option Letter → LoopState → List Arrival
brought None l = []
brought (Some x) l = if is_good l.peer.game.id l.partners x then brought_by x.player x.frame else []

-- before a datagram is heard: no own frame is left to be made and no move to be chosen, and all
-- that came is handled
pub record IsOpen (w : List Arrival) (l : LoopState) : Type 0 where
  pub few : l.kept ≤ length l.peer.entries
  pub pending : IsPending l w
  pub made : next_made l.peer.game l.peer.me l.peer.entries ≡ None
  pub chosen : may_choose l.peer.game l.peer.me l.peer.entries ≡ false

offered_pending : (w : List Arrival) (l : LoopState) (q : ℕ) (o : Option TurnFrame) → IsOpen w l → IsPending (record l { peer = offered q o l.peer }) (w ++ brought_by q o)
offered_pending w l q None k = subst (IsPending l) (sym (append-nil w)) k.pending
offered_pending w l q (Some f) k = go (is_taken_in game me l.peer.entries q f) refl
  where
    game : Game
    game = l.peer.game

    me : ℕ
    me = l.peer.me

    a : Arrival
    a = record { player = q; frame = f }

    rest : List Entry
    rest = drop l.kept l.peer.entries

    at : (es : List Entry) (more : List Entry) → es ≡ l.peer.entries ++ more → Explained game me (kept_of l) (w ++ a ∷ []) (rest ++ more) → Explained game me (take l.kept es) (w ++ a ∷ []) (drop l.kept es)
    at es more e x =
        subst (λ (y : List Entry). Explained game me (take l.kept y) (w ++ a ∷ []) (drop l.kept y)) (sym e)
        (subst (λ (y : List Entry). Explained game me y (w ++ a ∷ []) (drop l.kept (l.peer.entries ++ more))) (sym (grown_kept l (record l.peer { entries = l.peer.entries ++ more }) more refl k.few))
        (subst (λ (y : List Entry). Explained game me (kept_of l) (w ++ a ∷ []) y) (sym (grown_rest l (record l.peer { entries = l.peer.entries ++ more }) more refl k.few)) x))

    go : (b : Bool) → is_taken_in game me l.peer.entries q f ≡ b → Explained game me (take l.kept (with_got game me l.peer.entries q f)) (w ++ a ∷ []) (drop l.kept (with_got game me l.peer.entries q f))
    go true is =
        at (with_got game me l.peer.entries q f) (Got q f ∷ []) (ap (λ (b : Bool). if b then l.peer.entries ++ Got q f ∷ [] else l.peer.entries) is)
        (explains_new game me (kept_of l) w a rest k.pending (ap (λ (y : List Entry). is_new_to game me y a) (kept_rest l) ∙ is) (ap (next_made game me) (kept_rest l) ∙ k.made) (ap (may_choose game me) (kept_rest l) ∙ k.chosen))
    go false is =
        at (with_got game me l.peer.entries q f) [] (ap (λ (b : Bool). if b then l.peer.entries ++ Got q f ∷ [] else l.peer.entries) is ∙ sym (append-nil l.peer.entries))
        (subst (λ (y : List Entry). Explained game me (kept_of l) (w ++ a ∷ []) y) (sym (append-nil rest))
        (explains_old game me (kept_of l) w a rest k.pending (ap (λ (y : List Entry). is_new_to game me y a) (kept_rest l) ∙ is)))

-- ---- a letter is heard

heard_pending : (w : List Arrival) (l : LoopState) (x : Letter) (b : Bool) → IsOpen w l → IsPending (hears_if b x l) (w ++ (if b then brought_by x.player x.frame else []))
heard_pending w l x true k = offered_pending w l x.player x.frame k
heard_pending w l x false k = subst (IsPending (hears_if false x l)) (sym (append-nil w)) k.pending

pub hears_pending : (w : List Arrival) (l : LoopState) (o : Option Letter) → IsOpen w l → IsPending (hears o l) (w ++ brought o l)
hears_pending w l None k = subst (IsPending (hears None l)) (sym (append-nil w)) k.pending
hears_pending w l (Some x) k = heard_pending w l x (is_good l.peer.game.id l.partners x) k

offered_view : (w : List Arrival) (settling : Settling) (l : LoopState) (x : Letter) → l.kept ≤ length l.peer.entries → heard x (view_of w settling l) ≡ view_of (w ++ brought_by x.player x.frame) settling (heard_by x l)
offered_view w settling l x h =
    let m = offered_more x.player x.frame l.peer in
    let told = (heard_by x l).partners in
    ap (λ (v : View). record v { partners = told; waiting = w ++ brought_by x.player x.frame }) (sym (grown_view w settling l (offered x.player x.frame l.peer) m.0 m.1 h))

heard_view : (w : List Arrival) (settling : Settling) (l : LoopState) (x : Letter) (b : Bool) → l.kept ≤ length l.peer.entries → heard_if b x (view_of w settling l) ≡ view_of (w ++ (if b then brought_by x.player x.frame else [])) settling (hears_if b x l)
heard_view w settling l x true h = offered_view w settling l x h
heard_view w settling l x false h = ap (λ (ws : List Arrival). view_of ws settling (hears_if false x l)) (sym (append-nil w))

hears_view : (w : List Arrival) (settling : Settling) (l : LoopState) (o : Option Letter) → l.kept ≤ length l.peer.entries → heard_letter o (view_of w settling l) ≡ view_of (w ++ brought o l) settling (hears o l)
hears_view w settling l None h = ap (λ (ws : List Arrival). view_of ws settling (hears None l)) (sym (append-nil w))
hears_view w settling l (Some x) h = heard_view w settling l x (is_good l.peer.game.id l.partners x) h

pub took_view : (w : List Arrival) (settling : Settling) (l : LoopState) (bytes : List ℕ) → l.kept ≤ length l.peer.entries →
    after (view_of w settling l) (Took bytes) ≡ view_of (w ++ brought (letter_in bytes) l) (counted settling) (hears (letter_in bytes) l)
took_view w settling l bytes h = ap (λ (v : View). record v { settling = counted v.settling }) (hears_view w settling l (letter_in bytes) h)

-- what stays as it was
pub record Heard (l m : LoopState) : Type 0 where
  pub same : m ≡ record l { peer = m.peer; partners = m.partners; drops = m.drops }
  pub more : List Entry
  pub peer : m.peer ≡ record l.peer { entries = l.peer.entries ++ more }
  pub chose : chosen l.peer.me (l.peer.entries ++ more) ≡ chosen l.peer.me l.peer.entries

offered_chose : (q : ℕ) (o : Option TurnFrame) (p : PeerState) → (more : List Entry) × (offered q o p ≡ record p { entries = p.entries ++ more }) × (chosen p.me (p.entries ++ more) ≡ chosen p.me p.entries)
offered_chose q None p = ([], ap (λ (es : List Entry). record p { entries = es }) (sym (append-nil p.entries)), ap (chosen p.me) (append-nil p.entries))
offered_chose q (Some f) p = go (is_taken_in p.game p.me p.entries q f)
  where
    go : (b : Bool) → (more : List Entry) × (record p { entries = if b then p.entries ++ Got q f ∷ [] else p.entries } ≡ record p { entries = p.entries ++ more }) × (chosen p.me (p.entries ++ more) ≡ chosen p.me p.entries)
    go true = (Got q f ∷ [], refl, chosen_push p.me p.entries (Got q f) ∙ append-nil (chosen p.me p.entries))
    go false = ([], ap (λ (es : List Entry). record p { entries = es }) (sym (append-nil p.entries)), ap (chosen p.me) (append-nil p.entries))

heard_none : (cause : Cause) (l : LoopState) → Heard l (dropped_by cause l)
heard_none cause l = record { same = refl; more = []; peer = ap (λ (es : List Entry). record l.peer { entries = es }) (sym (append-nil l.peer.entries)); chose = ap (chosen l.peer.me) (append-nil l.peer.entries) }

heard_if_so : (b : Bool) (x : Letter) (l : LoopState) → Heard l (hears_if b x l)
heard_if_so true x l = (let m = offered_chose x.player x.frame l.peer in record { same = refl; more = m.0; peer = m.1; chose = m.2 })
heard_if_so false x l = heard_none (cause_of l.peer.game.id l.partners x) l

pub hears_so : (o : Option Letter) (l : LoopState) → Heard l (hears o l)
hears_so None l = heard_none C.Spelling l
hears_so (Some x) l = heard_if_so (is_good l.peer.game.id l.partners x) x l

-- ---- receiving goes on

-- so many datagrams were taken and heard
pub record Receiving (by to : Chooser) (made : Moves) (taken : ℕ) (before items : List Item) (l m : LoopState) : Type 0 where
  pub waiting : List Arrival
  pub follows : (polls : ℕ) → Follows (view_of [] (settling_after polls) l) (view_of waiting (taking polls taken (taken == MOST_DATAGRAMS)) m) before items
  pub pending : IsPending m waiting
  pub same : m ≡ record l { peer = m.peer; partners = m.partners; drops = m.drops }
  pub ready : IsReady l
  pub few : m.kept ≤ length m.peer.entries
  pub game : (m.peer.game ≡ l.peer.game) × (m.peer.me ≡ l.peer.me)
  pub choices : ChoosesBy l.peer.game l.peer.me by to (is_refused made) l.peer.entries m.peer.entries
  pub still : next_made m.peer.game m.peer.me m.peer.entries ≡ None
  pub stands : StandsAs by.plan made m.peer
  pub limit : taken ≤ MOST_DATAGRAMS

-- named by its own fields
same_of : (l n : LoopState) (partners : List Partner) (drops : Drops) → n ≡ record l { peer = n.peer; partners = partners; drops = drops } → n ≡ record l { peer = n.peer; partners = n.partners; drops = n.drops }
same_of l n partners drops e =
    e ∙ ap (λ (ps : List Partner). record l { peer = n.peer; partners = ps; drops = drops }) (sym (ap (λ (x : LoopState). x.partners) e))
    ∙ ap (λ (d : Drops). record l { peer = n.peer; partners = n.partners; drops = d }) (sym (ap (λ (x : LoopState). x.drops) e))

pub receiving_first : (by to : Chooser) (made : Moves) (items : List Item) (l m : LoopState) → IsReady l → MakesMoves by to made l m → Receiving by to made 0 items items l m
receiving_first by to made items l m r k =
    let h : l.kept ≤ length l.peer.entries = (let e = r.kept in omega (arith, e)) in
    let game = made_game by to made l m k in
    record {
      waiting = [];
      follows = λ polls. follows_to (view_of [] (settling_after polls) l) (view_of [] (settling_after polls) l) (view_of [] (taking polls 0 (0 == MOST_DATAGRAMS)) m) items items (follows_still (view_of [] (settling_after polls) l) items) (sym (made_view by to made [] (settling_after polls) l m k h));
      pending = made_pending by to made [] l m k h (subst (λ (es : List Entry). Explained l.peer.game l.peer.me (kept_of l) [] es) (sym (none_rest l r)) refl);
      same = same_of l m l.partners l.drops k.same;
      ready = r;
      few = made_few by to made l m k h;
      game = game;
      choices = made_choices by to made l m k;
      still = made_still by to made l m k;
      stands = k.makes.stands;
      limit = omega arith;
    }
  where
    none_rest : (l : LoopState) → IsReady l → drop l.kept l.peer.entries ≡ []
    none_rest l r = ap (λ (n : ℕ). drop n l.peer.entries) r.kept ∙ past l.peer.entries
      where
        past : (es : List Entry) → drop (length es) es ≡ []
        past [] = refl
        past (x ∷ es) = past es

-- a receive is allowed
receive_may : (by to : Chooser) (made : Moves) (taken : ℕ) (before items : List Item) (l m : LoopState) (w : List Arrival) (polls : ℕ) → Receiving by to made taken before items l m → taken < MOST_DATAGRAMS →
    may_receive (view_of w (taking polls taken (taken == MOST_DATAGRAMS)) m) ≡ true
receive_may by to made taken before items l m w polls k lt =
    and_from _ _ (and_from _ _ (and_from _ _ (ap is_running (ap (λ (x : LoopState). x.phase) k.same ∙ k.ready.running)) (ap not (ne_eqb taken MOST_DATAGRAMS (λ e. omega (arith, e, lt))))) refl)
    (eq-eqb m.synced (length (kept_of m)) (ap (λ (x : LoopState). x.synced) k.same ∙ k.ready.synced ∙ sym (few_kept m k.few ∙ ap (λ (x : LoopState). x.kept) k.same)))

pub receiving_on : (by mid to : Chooser) (made next : Moves) (taken : ℕ) (before items now : List Item) (l m n : LoopState) → Receiving by mid made taken before items l m → taken < MOST_DATAGRAMS → are_legal made ≡ true →
    StepsOn mid to next items now m n → Receiving by to next (taken + 1) before now l n
receiving_on by mid to made next taken before items now l m n k lt on s =
    let w = k.waiting in
    let bytes = s.received.0 in
    let o = letter_in bytes in
    let h = hears_so o m in
    let game = made_game mid to next (hears o m) n made_so in
    let settling : ℕ → Settling = λ polls. taking polls taken (taken == MOST_DATAGRAMS) in
    record {
      waiting = w ++ brought o m;
      follows = λ polls. follows_then (view_of [] (settling_after polls) l) (view_of w (settling polls) m) (view_of (w ++ brought o m) (taking polls (taken + 1) (taken + 1 == MOST_DATAGRAMS)) n) before items now (k.follows polls)
          (follows_one (view_of w (settling polls) m) (view_of (w ++ brought o m) (taking polls (taken + 1) (taken + 1 == MOST_DATAGRAMS)) n) items now (Took bytes) s.received.1
          (receive_may by mid made taken before items l m w polls k lt)
          (took_view w (settling polls) m bytes k.few ∙ sym (made_view mid to next (w ++ brought o m) (taking polls (taken + 1) (taken + 1 == MOST_DATAGRAMS)) (hears o m) n made_so few)));
      pending = made_pending mid to next (w ++ brought o m) (hears o m) n made_so few (hears_pending w m o (record { few = k.few; pending = k.pending; made = k.still; chosen = subst (λ (x : Moves). StandsAs by.plan x m.peer) (legal_is made on) k.stands }));
      same = same_of l n (hears o m).partners (hears o m).drops
          (made_so.same ∙ ap (λ (x : LoopState). record x { peer = n.peer }) (h.same ∙ ap (λ (x : LoopState). record x { peer = (hears o m).peer; partners = (hears o m).partners; drops = (hears o m).drops }) k.same));
      ready = k.ready;
      few = made_few mid to next (hears o m) n made_so few;
      game = (game.0 ∙ ap (λ (p : PeerState). p.game) h.peer ∙ k.game.0, game.1 ∙ ap (λ (p : PeerState). p.me) h.peer ∙ k.game.1);
      choices = chose_then l.peer.game l.peer.me by mid to (is_refused next) l.peer.entries m.peer.entries n.peer.entries
          (subst (λ (x : Moves). ChoosesBy l.peer.game l.peer.me by mid (is_refused x) l.peer.entries m.peer.entries) (legal_is made on) k.choices)
          (chose_then l.peer.game l.peer.me mid mid to (is_refused next) m.peer.entries (hears o m).peer.entries n.peer.entries
          (chose_none l.peer.game l.peer.me mid m.peer.entries (hears o m).peer.entries
          (ap (λ (p : PeerState). chosen l.peer.me p.entries) h.peer ∙ ap (λ (q : ℕ). chosen q (m.peer.entries ++ h.more)) (sym k.game.1) ∙ h.chose ∙ ap (λ (q : ℕ). chosen q m.peer.entries) k.game.1))
          (subst (λ (g : Game). ChoosesBy g l.peer.me mid to (is_refused next) (hears o m).peer.entries n.peer.entries) (ap (λ (p : PeerState). p.game) h.peer ∙ k.game.0)
          (subst (λ (q : ℕ). ChoosesBy (hears o m).peer.game q mid to (is_refused next) (hears o m).peer.entries n.peer.entries) (ap (λ (p : PeerState). p.me) h.peer ∙ k.game.1) (made_choices mid to next (hears o m) n made_so))));
      still = made_still mid to next (hears o m) n made_so;
      stands = subst (λ (p : Option Plan). StandsAs p next n.peer) k.choices.plan made_so.makes.stands;
      limit = omega (arith, lt);
    }
  where
    made_so : MakesMoves mid to next (hears (letter_in s.received.0) m) n
    made_so = subst (λ (x : LoopState). MakesMoves mid to next x n) s.received.2 s.made_so

    few : (hears (letter_in s.received.0) m).kept ≤ length (hears (letter_in s.received.0) m).peer.entries
    few =
        let h = hears_so (letter_in s.received.0) m in
        let kept : (hears (letter_in s.received.0) m).kept ≡ m.kept = ap (λ (x : LoopState). x.kept) h.same in
        let all : length (hears (letter_in s.received.0) m).peer.entries ≡ length (m.peer.entries ++ h.more) = ap (λ (p : PeerState). length p.entries) h.peer in
        let long = length-append m.peer.entries h.more in
        let f = k.few in
        omega (arith, kept, all, long, f)

-- ---- the ends

none_item : (v : View) (item : Item) → BringsNone item → may_receive v ≡ true → (is_allowed v item ≡ true) × (after v item ≡ received v)
none_item v item (inl e) may = (ap (is_allowed v) e ∙ may, ap (after v) e)
none_item v item (inr e) may = (ap (is_allowed v) e ∙ may, ap (after v) e)

-- no datagram came
pub receives_none : (by mid to : Chooser) (made : Moves) (taken : ℕ) (before items now : List Item) (l m n : LoopState) → Receiving by mid made taken before items l m → taken < MOST_DATAGRAMS → ReceivesOne false items now m n → to ≡ mid →
    Receives by to made before now l n
receives_none by mid to made taken before items now l m n k lt s e =
    subst (λ (x : LoopState). Receives by to made before now l x) (sym s.3)
    (subst (λ (x : Chooser). Receives by x made before now l m) (sym e) (record {
      waiting = k.waiting;
      taken = taken;
      is_received = true;
      follows = λ polls. let v = view_of k.waiting (taking polls taken (taken == MOST_DATAGRAMS)) m in
          let i = none_item v s.0 s.1 (receive_may by mid made taken before items l m k.waiting polls k lt) in
          follows_then (view_of [] (settling_after polls) l) v (view_of k.waiting (taking polls taken true) m) before items now (k.follows polls)
          (follows_one v (view_of k.waiting (taking polls taken true) m) items now s.0 s.2 i.0 i.1);
      pending = k.pending;
      same = k.same;
      game = k.game;
      choices = k.choices;
      still = k.still;
      stands = k.stands;
      whole = λ g. refl;
    }))

-- enough came, or it ends early
pub receives_ends : (by to : Chooser) (made : Moves) (taken : ℕ) (before items : List Item) (l m : LoopState) → Receiving by to made taken before items l m → ((goes_on made m ≡ true) → MOST_DATAGRAMS ≤ taken) → Receives by to made before items l m
receives_ends by to made taken before items l m k over = record {
  waiting = k.waiting;
  taken = taken;
  is_received = taken == MOST_DATAGRAMS;
  follows = k.follows;
  pending = k.pending;
  same = k.same;
  game = k.game;
  choices = k.choices;
  still = k.still;
  stands = k.stands;
  whole = λ g. (let a = over g in let b = k.limit in eq-eqb taken MOST_DATAGRAMS (omega (arith, a, b)));
}

-- ---- as the loop meets them

pub default_ends : (by mid to : Chooser) (made : Moves) (o : Option Moves) (taken : ℕ) (before items now : List Item) (l m n : LoopState) → Receiving by mid made taken before items l m → taken < MOST_DATAGRAMS → Steps mid to o items now m n → o ≡ None →
    Receives by to made before now l n
default_ends by mid to made o taken before items now l m n k lt s none =
    let e = subst (λ (x : Option Moves). Steps mid to x items now m n) none s in
    receives_none by mid to made taken before items now l m n k lt e.0 e.1

pub some_goes : (by mid to : Chooser) (made next : Moves) (o : Option Moves) (r : Bool) (taken : ℕ) (before items now : List Item) (l m n : LoopState) → Receiving by mid made taken before items l m → taken < MOST_DATAGRAMS → r ≡ goes_on made m → r ≡ true →
    Steps mid to o items now m n → o ≡ Some next → Receiving by to next (taken + 1) before now l n
some_goes by mid to made next o r taken before items now l m n k lt is on s some =
    receiving_on by mid to made next taken before items now l m n k lt (and_parts (are_legal made) (is_clean m.peer.game m.peer.entries) (sym is ∙ on)).0
    (subst (λ (x : Option Moves). Steps mid to x items now m n) some s)

pub early_ends : (by to : Chooser) (made : Moves) (r : Bool) (taken : ℕ) (before items : List Item) (l m : LoopState) → Receiving by to made taken before items l m → r ≡ goes_on made m → r ≡ false → Receives by to made before items l m
early_ends by to made r taken before items l m k is off = receives_ends by to made taken before items l m k (λ g. absurd (false≢true (sym off ∙ is ∙ g)))

pub full_ends : (by to : Chooser) (made : Moves) (taken : ℕ) (before items : List Item) (l m : LoopState) → Receiving by to made taken before items l m → MOST_DATAGRAMS ≤ taken → Receives by to made before items l m
full_ends by to made taken before items l m k full = receives_ends by to made taken before items l m k (λ g. full)
