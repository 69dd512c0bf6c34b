-- Giving: what is known of a line stays known as bytes are given on its socket.
use Rattle.std.proofs.Common.{◌≡◌, ◌⊎◌, inl, inr, max, arith, ℕ, zero, suc, ◌+◌, Bool, true, false, refl, sym, ap, subst, ◌∙◌, List, [], ◌∷◌, ◌++◌, append_assoc, append-nil, take-append-drop}
use Rattle.std.specs.Prelude.{Option, Some, None, ◌==◌, nat_lt, length, drop, take, slice_get, unwrap_or, flat_map, if◌then◌else◌}
use Rattle.std.proofs.lemmas.Bool.{and_parts, false≢true}
use Rattle.std.proofs.lemmas.List.Concat.{flat_map-append}
use Rattle.std.proofs.lemmas.Slice.Eq.{bytes_eq-Decides}
use Rattle.definitions.specs.declared.frames.TurnFrame.{TurnFrame}
use Rattle.definitions.specs.Lists.{is_empty}
use Rattle.definition_laws.specs.Members.{Has}
use Rattle.wire_frames.specs.declared.frames.Frame.{Frame}
use Rattle.wire_frames.specs.declared.frames.Frame.TheVariants.{Hello, Turn, Want}
use Rattle.wire_frames.specs.Spelling.{spelling}
use Rattle.rosters.specs.declared.roster.Link.{Link}
use Rattle.socket_lines.specs.declared.giving.Due.{Due}
use Rattle.socket_lines.specs.declared.giving.Due.TheVariants as U
use Rattle.socket_lines.specs.declared.line.Line.{Line}
use Rattle.socket_lines.specs.declared.seat.Seat.{Seat}
use Rattle.socket_lines.specs.Lines.{player_of, or_else}
use Rattle.socket_lines.specs.Giving.{Desk, want_or_own, named_due, hello_or, due_on, frame_of, frame_due, spelled, marked, ended_with, left_with}
use Rattle.loop_rules.specs.Settings.{Setting, speaker_of}
use Rattle.loop_rules.specs.Tables.{Table, seat_by, in_lines, in_seats, desk_of, desk_with}
use Rattle.loop_rules.specs.After.{own_at, gave_on, gave_with, gave_by}
use Rattle.loop_rules.specs.Rules.{due_at, is_front}
use Rattle.loop_rules.proofs.Alike.{keeps_gave}
use Rattle.loop_laws.specs.Counting.{IsWhollyGiven}
use Rattle.loop_laws.specs.Speaking.{IsNamed, IsAsked}
use Rattle.loop_laws.proofs.Finds.{line_in, line_is, IfLine, if_own, if_other}
use Rattle.loop_laws.proofs.Frames.{Goes, goes_want, goes_turn}
use Rattle.loop_laws.proofs.Speakers.{Facts, Told, NameSo, DialledSo, JumpSo, CursorSo, SpokenSo, Said, told_said, told_marked}
use Rattle.loop_laws.proofs.Hearing.{Linked, seat_is}

abbrev pub with_given : Facts → List ℕ → Facts
with_given facts given = record facts { given = given }

-- ---- bytes that are due

take_none : (n : ℕ) → take {A = ℕ} n [] ≡ []
take_none zero = refl
take_none (suc n) = refl

front_is : (bytes all : List ℕ) → is_front bytes all ≡ true → bytes ≡ take (length bytes) all
front_is bytes all h = (bytes_eq-Decides bytes (take (length bytes) all)).0 (and_parts _ _ h).1

pub no_front : (bytes : List ℕ) → is_front bytes [] ≡ true → ⊥
no_front bytes h =
    let none : bytes ≡ [] = front_is bytes [] h ∙ take_none (length bytes) in
    false≢true (ap (λ (x : List ℕ). nat_lt 0 (length x)) (sym none) ∙ (and_parts _ _ h).0)

-- they and what is left of them are all
front_left : (bytes all : List ℕ) → is_front bytes all ≡ true → bytes ++ drop (length bytes) all ≡ all
front_left bytes all h = ap (λ (x : List ℕ). x ++ drop (length bytes) all) (front_is bytes all h) ∙ take-append-drop (length bytes) all

-- which frame is due
abbrev pub DueIs : (hello name : Option ℕ) → (own : Option TurnFrame) → Due → Type 0
DueIs hello name own U.Nothing = Unit {0}
DueIs hello name own (U.Hello next) = hello ≡ Some next
DueIs hello name own (U.Want place) = (hello ≡ None) × ((q : ℕ) × (name ≡ Some q))
DueIs hello name own (U.Own f) = (hello ≡ None) × ((q : ℕ) × (name ≡ Some q)) × (own ≡ Some f)

due_is : (hello name asked : Option ℕ) (own : Option TurnFrame) → DueIs hello name own (hello_or hello (named_due name (want_or_own asked own)))
due_is (Some next) name asked own = refl
due_is None None asked own = tt
due_is None (Some q) (Some place) own = (refl, (q, refl))
due_is None (Some q) None None = tt
due_is None (Some q) None (Some f) = (refl, (q, refl), refl)

-- ---- a frame that is given in part, or wholly

-- what is known of a line once these bytes are left of what goes out on it
record Part (s : Setting) (own : List TurnFrame) (facts : Facts) (l : Line) (left : List ℕ) : Type 0 where
  reads : l.reader ≡ facts.reader
  unnamed : l.name ≡ None → l.is_wrong ≡ false → facts.came ≡ []
  named : NameSo s facts.came l.name
  by : DialledSo facts.dialled l.dialled
  frames : List Frame
  last : Option ℕ
  given : facts.given ++ left ≡ flat_map spelling frames
  jump : JumpSo facts.came l.jump
  cursor : CursorSo facts.came l.name last l.sending l.cursor
  spoken : SpokenSo s own facts.dialled facts.came left l.hello l.name l.dialled frames last

-- where an own frame was wholly given, the one that comes next is at the cursor
cursor_then : (came : List Frame) (name last jump : Option ℕ) (place : ℕ) → JumpSo came jump → last ≡ Some (place + 1) → CursorSo came name last None (unwrap_or jump (place + 1))
cursor_then came name last None place j e = inr (inl e)
cursor_then came name last (Some to) place j e = inr (inr j)

part_ended : (s : Setting) (own : List TurnFrame) (facts : Facts) (d : Desk) (left : List ℕ) (o : Option ℕ) → d.line.sending ≡ o → Part s own facts d.line left →
    Told s own facts (ended_with o (record d { line = record d.line { unsent = left } })).line
part_ended s own facts d left None e k = record {
  reads = k.reads;
  unnamed = k.unnamed;
  named = k.named;
  by = k.by;
  frames = k.frames;
  last = k.last;
  given = k.given;
  begun = λ x. e;
  jump = k.jump;
  cursor = k.cursor;
  spoken = k.spoken;
}
part_ended s own facts d left (Some place) e k = record {
  reads = k.reads;
  unnamed = k.unnamed;
  named = k.named;
  by = k.by;
  frames = k.frames;
  last = k.last;
  given = k.given;
  begun = λ x. refl;
  jump = tt;
  cursor = cursor_then facts.came d.line.name k.last d.line.jump place k.jump
      (subst (λ (x : Option ℕ). CursorSo facts.came d.line.name k.last x d.line.cursor) e k.cursor);
  spoken = k.spoken;
}

part_left : (s : Setting) (own : List TurnFrame) (facts : Facts) (d : Desk) (left : List ℕ) → Part s own facts d.line left → Told s own facts (left_with left d).line
part_left s own facts d left k = go (is_empty left) refl
  where
    e : Desk
    e = record d { line = record d.line { unsent = left } }

    go : (b : Bool) → is_empty left ≡ b → Told s own facts (if b then ended_with d.line.sending e else e).line
    go true w = part_ended s own facts d left d.line.sending refl k
    go false w = record {
      reads = k.reads;
      unnamed = k.unnamed;
      named = k.named;
      by = k.by;
      frames = k.frames;
      last = k.last;
      given = k.given;
      begun = λ x. absurd (false≢true (sym w ∙ ap (λ (y : List ℕ). is_empty y) x));
      jump = k.jump;
      cursor = k.cursor;
      spoken = k.spoken;
    }

-- ---- going on with a frame

spoken_left : (s : Setting) (own : List TurnFrame) (dialled : List ℕ) (came : List Frame) (unsent left : List ℕ) (hello name by : Option ℕ) (frames : List Frame) (last : Option ℕ) → (unsent ≡ [] → ⊥) →
    SpokenSo s own dialled came unsent hello name by frames last → SpokenSo s own dialled came left hello name by frames last
spoken_left s own dialled came unsent left hello name by [] last n k = absurd (n k.0)
spoken_left s own dialled came unsent left hello name by (f ∷ more) last n k = k

going : (s : Setting) (own : List TurnFrame) (facts : Facts) (l : Line) (bytes : List ℕ) → (l.unsent ≡ [] → ⊥) → is_front bytes l.unsent ≡ true → Told s own facts l →
    Part s own (with_given facts (facts.given ++ bytes)) l (drop (length bytes) l.unsent)
going s own facts l bytes n h k =
    let left : List ℕ = drop (length bytes) l.unsent in
    record {
      reads = k.reads;
      unnamed = k.unnamed;
      named = k.named;
      by = k.by;
      frames = k.frames;
      last = k.last;
      given = append_assoc facts.given bytes left ∙ ap (λ (x : List ℕ). facts.given ++ x) (front_left bytes l.unsent h) ∙ k.given;
      jump = k.jump;
      cursor = k.cursor;
      spoken = spoken_left s own facts.dialled facts.came l.unsent left l.hello l.name l.dialled k.frames k.last n k.spoken;
    }

-- ---- beginning a frame

given_more : (given unsent bytes left : List ℕ) (frames : List Frame) (f : Frame) → given ++ unsent ≡ flat_map spelling frames → unsent ≡ [] → bytes ++ left ≡ spelling f →
    (given ++ bytes) ++ left ≡ flat_map spelling (frames ++ f ∷ [])
given_more given unsent bytes left frames f e none all =
    let before : given ≡ flat_map spelling frames = sym (append-nil given) ∙ ap (λ (x : List ℕ). given ++ x) (sym none) ∙ e in
    append_assoc given bytes left ∙ ap (λ (x : List ℕ). given ++ x) (all ∙ sym (append-nil (spelling f))) ∙
    ap (λ (x : List ℕ). x ++ (spelling f ++ [])) before ∙ sym (flat_map-append spelling frames (f ∷ []))

-- before the own HELLO there is no frame
silent : (s : Setting) (own : List TurnFrame) (dialled : List ℕ) (came : List Frame) (unsent : List ℕ) (hello name by : Option ℕ) (frames : List Frame) (last : Option ℕ) (next : ℕ) → hello ≡ Some next →
    SpokenSo s own dialled came unsent hello name by frames last → (frames ≡ []) × (last ≡ None)
silent s own dialled came unsent hello name by [] last next e k = (refl, k.1)
silent s own dialled came unsent hello name by (f ∷ more) last next e k = absurd (let x : None ≡ Some next = sym k.0 ∙ e in cc)

-- after it one more frame is given
spoken_then : (s : Setting) (own : List TurnFrame) (dialled : List ℕ) (came : List Frame) (unsent left : List ℕ) (hello name by : Option ℕ) (frames : List Frame) (last next : Option ℕ) (f : Frame) (q : ℕ) →
    hello ≡ None → name ≡ Some q → IsNamed s came q → ((fs : List Frame) → Goes own came None fs last → Goes own came None (fs ++ f ∷ []) next) →
    SpokenSo s own dialled came unsent hello name by frames last → SpokenSo s own dialled came left hello name by (frames ++ f ∷ []) next
spoken_then s own dialled came unsent left hello name by [] last next f q e is n step k = absurd (let x : Some q ≡ None = sym is ∙ (k.2 e).0 in cc)
spoken_then s own dialled came unsent left hello name by (g ∷ more) last next f q e is n step k = (k.0, k.1, step more k.2, inr (q, n), k.4)

next_there : (came : List Frame) (name last sending : Option ℕ) (cursor q : ℕ) → sending ≡ None → name ≡ Some q → CursorSo came name last sending cursor → (last ≡ Some cursor) ⊎ IsAsked came cursor
next_there came name last None cursor q e is (inl none) = absurd (let x : None ≡ Some q = sym none ∙ is in cc)
next_there came name last None cursor q e is (inr w) = w
next_there came name last (Some p) cursor q e is k = absurd (let x : Some p ≡ None = e in cc)

-- a line, the seat of its player, and what they say of that one
module _ (s : Setting) (own : List TurnFrame) (facts : Facts) (d : Desk) (linked : Has s.roster.links d.seat.link)
    (whose : Has facts.dialled d.seat.link.player ⊎ IsNamed s facts.came d.seat.link.player) (player : d.line.name ≡ None → d.line.dialled ≡ None → ⊥) (k : Told s own facts d.line)
    (bytes : List ℕ) (fresh : d.line.unsent ≡ []) where
  abbrev l : Line
  l = d.line

  abbrev then_facts : Facts
  then_facts = with_given facts (facts.given ++ bytes)

  begin_hello : (next : ℕ) → l.hello ≡ Some next → let f : Frame = Hello s.game.id s.me d.seat.link.shows next in
      is_front bytes (spelling f) ≡ true → Part s own then_facts (record l { hello = None }) (drop (length bytes) (spelling f))
  begin_hello next e h =
      let f : Frame = Hello s.game.id s.me d.seat.link.shows next in
      let left : List ℕ = drop (length bytes) (spelling f) in
      let none = silent s own facts.dialled facts.came l.unsent l.hello l.name l.dialled k.frames k.last next e k.spoken in
      record {
        reads = k.reads;
        unnamed = k.unnamed;
        named = k.named;
        by = k.by;
        frames = f ∷ [];
        last = None;
        given = given_more facts.given l.unsent bytes left k.frames f k.given fresh (front_left bytes (spelling f) h) ∙
            ap (λ (x : List Frame). flat_map spelling (x ++ f ∷ [])) none.0;
        jump = k.jump;
        cursor = subst (λ (x : Option ℕ). CursorSo facts.came l.name x l.sending l.cursor) none.1 k.cursor;
        spoken = (refl, (d.seat.link, linked, refl, refl, refl, whose), refl, inl refl, player);
      }

  named_so : (q : ℕ) → l.name ≡ Some q → IsNamed s facts.came q
  named_so q is = subst (NameSo s facts.came) is k.named

  begin_want : (place q : ℕ) → l.hello ≡ None → l.name ≡ Some q → is_front bytes (spelling (Want place)) ≡ true → Part s own then_facts l (drop (length bytes) (spelling (Want place)))
  begin_want place q e is h =
      let left : List ℕ = drop (length bytes) (spelling (Want place)) in
      record {
        reads = k.reads;
        unnamed = k.unnamed;
        named = k.named;
        by = k.by;
        frames = k.frames ++ Want place ∷ [];
        last = k.last;
        given = given_more facts.given l.unsent bytes left k.frames (Want place) k.given fresh (front_left bytes (spelling (Want place)) h);
        jump = k.jump;
        cursor = k.cursor;
        spoken = spoken_then s own facts.dialled facts.came l.unsent left l.hello l.name l.dialled k.frames k.last k.last (Want place) q e is (named_so q is)
            (λ fs. goes_want own facts.came None fs k.last place) k.spoken;
      }

  begin_own : (f : TurnFrame) (q : ℕ) → l.hello ≡ None → l.name ≡ Some q → slice_get own l.cursor ≡ Some f → is_front bytes (spelling (Turn f)) ≡ true →
      Part s own then_facts (record l { sending = Some l.cursor }) (drop (length bytes) (spelling (Turn f)))
  begin_own f q e is at h =
      let left : List ℕ = drop (length bytes) (spelling (Turn f)) in
      let next = next_there facts.came l.name k.last l.sending l.cursor q (k.begun fresh) is k.cursor in
      record {
        reads = k.reads;
        unnamed = k.unnamed;
        named = k.named;
        by = k.by;
        frames = k.frames ++ Turn f ∷ [];
        last = Some (l.cursor + 1);
        given = given_more facts.given l.unsent bytes left k.frames (Turn f) k.given fresh (front_left bytes (spelling (Turn f)) h);
        jump = k.jump;
        cursor = refl;
        spoken = spoken_then s own facts.dialled facts.came l.unsent left l.hello l.name l.dialled k.frames k.last (Some (l.cursor + 1)) (Turn f) q e is (named_so q is)
            (λ fs. goes_turn own facts.came None fs k.last f l.cursor at next) k.spoken;
      }

  begin_due : (due : Due) → DueIs l.hello l.name (own_at own l) due → is_front bytes (spelled (frame_of (speaker_of s) d.seat.link.shows due)) ≡ true →
      Part s own then_facts (marked due d).line (drop (length bytes) (spelled (frame_of (speaker_of s) d.seat.link.shows due)))
  begin_due U.Nothing w h = absurd (no_front bytes h)
  begin_due (U.Hello next) w h = begin_hello next w h
  begin_due (U.Want place) w h = begin_want place w.1.0 w.0 w.1.1 h
  begin_due (U.Own f) w h = begin_own f w.1.0 w.0 w.1.1 w.2 h

told_gave : (s : Setting) (own : List TurnFrame) (facts : Facts) (d : Desk) (bytes : List ℕ) → Has s.roster.links d.seat.link → Has facts.dialled d.seat.link.player ⊎ IsNamed s facts.came d.seat.link.player →
    (d.line.name ≡ None → d.line.dialled ≡ None → ⊥) → is_front bytes (due_at (speaker_of s) (own_at own d.line) (Some d)) ≡ true → Told s own facts d.line →
    Told s own (with_given facts (facts.given ++ bytes)) (gave_on (speaker_of s) (own_at own d.line) (length bytes) d).line
told_gave s own facts d bytes linked whose player h k = told_marked s own all e.line e.line.is_open e.line.is_quiet false (go d.line.unsent refl h)
  where
    all : Facts
    all = with_given facts (facts.given ++ bytes)

    o : Option TurnFrame
    o = own_at own d.line

    e : Desk
    e = left_with (drop (length bytes) (if is_empty d.line.unsent then spelled (frame_due (speaker_of s) o d) else d.line.unsent)) (if is_empty d.line.unsent then marked (due_on o d) d else d)

    go : (u : List ℕ) → d.line.unsent ≡ u → is_front bytes (if is_empty u then spelled (frame_due (speaker_of s) o d) else u) ≡ true →
        Told s own all (left_with (drop (length bytes) (if is_empty u then spelled (frame_due (speaker_of s) o d) else u)) (if is_empty u then marked (due_on o d) d else d)).line
    go [] same f =
        part_left s own all (marked (due_on o d) d) (drop (length bytes) (spelled (frame_due (speaker_of s) o d)))
        (begin_due s own facts d linked whose player k bytes same (due_on o d) (due_is d.line.hello d.line.name (slice_get d.seat.asks.due 0) o) f)
    go (b ∷ rest) same f =
        part_left s own all d (drop (length bytes) (b ∷ rest))
        (subst (λ (x : List ℕ). Part s own all d.line (drop (length bytes) x)) same
        (going s own facts d.line bytes (λ x. let z : b ∷ rest ≡ [] = sym same ∙ x in cc) (ap (is_front bytes) same ∙ f) k))

-- ---- what counts as given after it

-- the own frame at the place stands among these frames
abbrev HasTurn : (own : List TurnFrame) → List Frame → (place : ℕ) → Type 0
HasTurn own fs place = (f : TurnFrame) × (front : List Frame) × (back : List Frame) × (fs ≡ front ++ Turn f ∷ back) × (slice_get own place ≡ Some f)

has_behind : (own : List TurnFrame) (g : Frame) (fs : List Frame) (place : ℕ) → HasTurn own fs place → HasTurn own (g ∷ fs) place
has_behind own g fs place h = (h.0, g ∷ h.1, h.2, ap (λ (x : List Frame). g ∷ x) h.3, h.4)

goes_has : (own : List TurnFrame) (came : List Frame) (next : Option ℕ) (fs : List Frame) (last : Option ℕ) (place : ℕ) → last ≡ Some (place + 1) → Goes own came next fs last →
    (next ≡ Some (place + 1)) ⊎ HasTurn own fs place
goes_has own came next [] last place e g = inl (g ∙ e)
goes_has own came next (Hello id q pass from ∷ more) last place e g = absurd g
goes_has own came next (Want p ∷ more) last place e g = elim (goes_has own came next more last place e g) [ inl x ↦ inl x | inr x ↦ inr (has_behind own (Want p) more place x) ]
goes_has own came next (Turn f ∷ more) last place e g = elim (goes_has own came (Some (g.0 + 1)) more last place e g.3) [
  | inl x ↦ inr (f, [], more, refl, subst (λ (n : ℕ). slice_get own n ≡ Some f) (some_same g.0 place x) g.1)
  | inr x ↦ inr (has_behind own (Turn f) more place x)
]
  where
    some_same : (a b : ℕ) → Some (a + 1) ≡ Some (b + 1) → a ≡ b
    some_same a b x = let y : a + 1 ≡ b + 1 = cc in omega (arith, y)

not_none : (place : ℕ) → None ≡ Some (place + 1) → ⊥
not_none place e = cc

not_nil : (front back : List Frame) (f : Frame) → [] ≡ front ++ f ∷ back → ⊥
not_nil [] back f e = cc
not_nil (g ∷ front) back f e = cc

-- an own frame is given only where a player is named
spoken_has : (s : Setting) (own : List TurnFrame) (dialled : List ℕ) (came : List Frame) (unsent : List ℕ) (hello name by : Option ℕ) (frames : List Frame) (last : Option ℕ) (place : ℕ) → last ≡ Some (place + 1) →
    SpokenSo s own dialled came unsent hello name by frames last → HasTurn own frames place × ((q : ℕ) × IsNamed s came q)
spoken_has s own dialled came unsent hello name by [] last place e k = absurd (not_none place (sym k.1 ∙ e))
spoken_has s own dialled came unsent hello name by (f ∷ more) last place e k = elim (goes_has own came None more last place e k.2) [
  | inl x ↦ absurd (not_none place x)
  | inr x ↦ (
    has_behind own f more place x,
    elim k.3 [
      | inl none ↦ absurd (not_nil x.1 x.2 (Turn x.0) (sym none ∙ x.3))
      | inr named ↦ named
    ],
  )
]

-- the count stays, or an own frame was wholly given
abbrev pub Counts : Setting → (own : List TurnFrame) → (came : List Frame) → (given : List ℕ) → (old new : ℕ) → Type 0
Counts s own came given old new = (new ≡ old) ⊎ ((place : ℕ) × (new ≡ max old (place + 1)) × IsWhollyGiven own given place × ((q : ℕ) × IsNamed s came q))

ended_count : (s : Setting) (own : List TurnFrame) (facts : Facts) (d : Desk) (left : List ℕ) (o : Option ℕ) → d.line.sending ≡ o → left ≡ [] → Part s own facts d.line left →
    Counts s own facts.came facts.given d.seat.given (ended_with o (record d { line = record d.line { unsent = left } })).seat.given
ended_count s own facts d left None e none k = inl refl
ended_count s own facts d left (Some place) e none k =
    let last = subst (λ (x : Option ℕ). CursorSo facts.came d.line.name k.last x d.line.cursor) e k.cursor in
    let has = spoken_has s own facts.dialled facts.came left d.line.hello d.line.name d.line.dialled k.frames k.last place last k.spoken in
    let whole : facts.given ≡ flat_map spelling k.frames = sym (append-nil facts.given) ∙ ap (λ (x : List ℕ). facts.given ++ x) (sym none) ∙ k.given in
    inr (
      place,
      refl,
      record {
        frame = has.0.0;
        stands = has.0.4;
        front = has.0.1;
        back = has.0.2;
        rest = [];
        spelled = whole ∙ ap (λ (x : List Frame). flat_map spelling x) has.0.3 ∙ sym (append-nil (flat_map spelling (has.0.1 ++ Turn has.0.0 ∷ has.0.2)));
      },
      has.1,
    )

left_count : (s : Setting) (own : List TurnFrame) (facts : Facts) (d : Desk) (left : List ℕ) → Part s own facts d.line left → Counts s own facts.came facts.given d.seat.given (left_with left d).seat.given
left_count s own facts d left k = go (is_empty left) refl
  where
    e : Desk
    e = record d { line = record d.line { unsent = left } }

    empty_is : (xs : List ℕ) → is_empty xs ≡ true → xs ≡ []
    empty_is [] w = refl
    empty_is (x ∷ xs) w = absurd (false≢true w)

    go : (b : Bool) → is_empty left ≡ b → Counts s own facts.came facts.given d.seat.given (if b then ended_with d.line.sending e else e).seat.given
    go true w = ended_count s own facts d left d.line.sending refl (empty_is left w) k
    go false w = inl refl

marked_count : (due : Due) (d : Desk) → (marked due d).seat.given ≡ d.seat.given
marked_count U.Nothing d = refl
marked_count (U.Hello next) d = refl
marked_count (U.Want place) d = refl
marked_count (U.Own f) d = refl

count_gave : (s : Setting) (own : List TurnFrame) (facts : Facts) (d : Desk) (bytes : List ℕ) → Has s.roster.links d.seat.link → Has facts.dialled d.seat.link.player ⊎ IsNamed s facts.came d.seat.link.player →
    (d.line.name ≡ None → d.line.dialled ≡ None → ⊥) → is_front bytes (due_at (speaker_of s) (own_at own d.line) (Some d)) ≡ true → Told s own facts d.line →
    Counts s own facts.came (facts.given ++ bytes) d.seat.given (gave_on (speaker_of s) (own_at own d.line) (length bytes) d).seat.given
count_gave s own facts d bytes linked whose player h k = go d.line.unsent refl h
  where
    all : Facts
    all = with_given facts (facts.given ++ bytes)

    o : Option TurnFrame
    o = own_at own d.line

    go : (u : List ℕ) → d.line.unsent ≡ u → is_front bytes (if is_empty u then spelled (frame_due (speaker_of s) o d) else u) ≡ true →
        Counts s own all.came all.given d.seat.given (left_with (drop (length bytes) (if is_empty u then spelled (frame_due (speaker_of s) o d) else u)) (if is_empty u then marked (due_on o d) d else d)).seat.given
    go [] same f =
        let left = drop (length bytes) (spelled (frame_due (speaker_of s) o d)) in
        subst (λ (x : ℕ). Counts s own all.came all.given x (left_with left (marked (due_on o d) d)).seat.given) (marked_count (due_on o d) d)
        (left_count s own all (marked (due_on o d) d) left
        (begin_due s own facts d linked whose player k bytes same (due_on o d) (due_is d.line.hello d.line.name (slice_get d.seat.asks.due 0) o) f))
    go (b ∷ rest) same f =
        left_count s own all d (drop (length bytes) (b ∷ rest))
        (subst (λ (x : List ℕ). Part s own all d.line (drop (length bytes) x)) same
        (going s own facts d.line bytes (λ x. let z : b ∷ rest ≡ [] = sym same ∙ x in cc) (ap (is_front bytes) same ∙ f) k))

-- ---- in a table

-- the seat beside a line is its player's
whose_seat : (s : Setting) (dialled : List ℕ) (came : List Frame) (t : Table) (c : Seat) (name by : Option ℕ) → Linked (λ link. Has s.roster.links link) t.seats → NameSo s came name → DialledSo dialled by →
    seat_by t (or_else name by) ≡ Some c → Has s.roster.links c.link × (Has dialled c.link.player ⊎ IsNamed s came c.link.player) × (name ≡ None → by ≡ None → ⊥)
whose_seat s dialled came t c (Some q) by k n b e =
    let found = seat_is (λ link. Has s.roster.links link) q t.seats c k e in
    (found.0, inr (subst (IsNamed s came) (sym found.1) n), λ x y. (let z : Some q ≡ None = x in cc))
whose_seat s dialled came t c None (Some q) k n b e =
    let found = seat_is (λ link. Has s.roster.links link) q t.seats c k e in
    (found.0, inl (subst (Has dialled) (sym found.1) b), λ x y. (let z : Some q ≡ None = y in cc))
whose_seat s dialled came t c None None k n b e = absurd (let z : None ≡ Some c = e in cc)

links_put : (L : Link → Type 0) (q : ℕ) (c : Seat) (cs : List Seat) → L c.link → Linked L cs → Linked L (in_seats q (λ _. c) cs)
links_put L q c [] x each = tt
links_put L q c (d ∷ cs) x each = (go (d.link.player == q), links_put L q c cs x each.1)
  where
    go : (b : Bool) → L (if b then c else d).link
    go true = x
    go false = each.0

-- the links stay
links_desk : (s : Setting) (o : Option TurnFrame) (count : ℕ) (t : Table) (l : Line) (c : Option Seat) → ((e : Seat) → c ≡ Some e → Has s.roster.links e.link) → Linked (λ link. Has s.roster.links link) t.seats →
    Linked (λ link. Has s.roster.links link) (gave_with (speaker_of s) o count t (desk_with l c)).seats
links_desk s o count t l None n k = k
links_desk s o count t l (Some c) n k =
    let d : Desk = record { line = l; seat = c } in
    let w = keeps_gave (speaker_of s) o count d in
    links_put (λ link. Has s.roster.links link) (gave_on (speaker_of s) o count d).seat.link.player (gave_on (speaker_of s) o count d).seat t.seats
    (subst (λ (x : Link). Has s.roster.links x) (sym w.5) (n c refl)) k

seat_linked : (L : Link → Type 0) (t : Table) (p : Option ℕ) (c : Seat) → Linked L t.seats → seat_by t p ≡ Some c → L c.link
seat_linked L t None c k e = absurd (let z : None ≡ Some c = e in cc)
seat_linked L t (Some q) c k e = (seat_is L q t.seats c k e).0

pub links_gave : (s : Setting) (own : List TurnFrame) (count : ℕ) (t : Table) (o : Option Line) → Linked (λ link. Has s.roster.links link) t.seats →
    Linked (λ link. Has s.roster.links link) (gave_by (speaker_of s) own count t o).seats
links_gave s own count t None k = k
links_gave s own count t (Some l) k =
    links_desk s (own_at own l) count t l (seat_by t (player_of l)) (λ c e. seat_linked (λ link. Has s.roster.links link) t (player_of l) c k e) k

-- the line of another socket stays
other_desk : (s : Setting) (P : Line → Type 0) (n m : ℕ) (o : Option TurnFrame) (count : ℕ) (t : Table) (l : Line) (c : Option Seat) → (n == m) ≡ false → l.socket ≡ m → IfLine P (line_in n t.lines) →
    IfLine P (line_in n (gave_with (speaker_of s) o count t (desk_with l c)).lines)
other_desk s P n m o count t l None other is p = p
other_desk s P n m o count t l (Some c) other is p =
    let d : Desk = record { line = l; seat = c } in
    let to : Line = (gave_on (speaker_of s) o count d).line in
    let same : to.socket ≡ m = (keeps_gave (speaker_of s) o count d).0 ∙ is in
    if_other P n to.socket (λ _. to) t.lines (ap (λ (x : ℕ). n == x) same ∙ other) (λ x e. sym e) p

pub other_gave : (s : Setting) (P : Line → Type 0) (n m : ℕ) (own : List TurnFrame) (count : ℕ) (t : Table) (o : Option Line) → (n == m) ≡ false → line_in m t.lines ≡ o → IfLine P (line_in n t.lines) →
    IfLine P (line_in n (gave_by (speaker_of s) own count t o).lines)
other_gave s P n m own count t None other e p = p
other_gave s P n m own count t (Some l) other e p =
    other_desk s P n m (own_at own l) count t l (seat_by t (player_of l)) other (line_is m t.lines l e) p

-- the line of the socket itself is known after the bytes
own_desk : (s : Setting) (own : List TurnFrame) (facts : Facts) (n : ℕ) (bytes : List ℕ) (t : Table) (l : Line) (o : Option Seat) → Linked (λ link. Has s.roster.links link) t.seats → line_in n t.lines ≡ Some l →
    seat_by t (player_of l) ≡ o → is_front bytes (due_at (speaker_of s) (own_at own l) (desk_with l o)) ≡ true → Told s own facts l →
    IfLine (Told s own (with_given facts (facts.given ++ bytes))) (line_in n (gave_with (speaker_of s) (own_at own l) (length bytes) t (desk_with l o)).lines)
own_desk s own facts n bytes t l None links e f h k = absurd (no_front bytes h)
own_desk s own facts n bytes t l (Some c) links e f h k =
    let d : Desk = record { line = l; seat = c } in
    let to : Line = (gave_on (speaker_of s) (own_at own l) (length bytes) d).line in
    let all : Facts = with_given facts (facts.given ++ bytes) in
    let same : to.socket ≡ n = (keeps_gave (speaker_of s) (own_at own l) (length bytes) d).0 ∙ line_is n t.lines l e in
    let w = whose_seat s facts.dialled facts.came t c l.name l.dialled links k.named k.by f in
    let after : Told s own all to = told_gave s own facts d bytes w.0 w.1 w.2 h k in
    subst (λ (m : ℕ). IfLine (Told s own all) (line_in n (in_lines m (λ _. to) t.lines))) (sym same)
    (if_own (λ x. x ≡ l) (Told s own all) n (λ _. to) t.lines (λ x q. same ∙ sym q) (λ x q r. after) (subst (IfLine (λ x. x ≡ l)) (sym e) refl))

pub own_gave : (s : Setting) (own : List TurnFrame) (facts : Facts) (n : ℕ) (bytes : List ℕ) (t : Table) (l : Line) → Linked (λ link. Has s.roster.links link) t.seats → line_in n t.lines ≡ Some l →
    is_front bytes (due_at (speaker_of s) (own_at own l) (desk_of t l)) ≡ true → Told s own facts l →
    IfLine (Told s own (with_given facts (facts.given ++ bytes))) (line_in n (gave_by (speaker_of s) own (length bytes) t (Some l)).lines)
own_gave s own facts n bytes t l links e h k = own_desk s own facts n bytes t l (seat_by t (player_of l)) links e refl h k

pub said_gave : (s : Setting) (own : List TurnFrame) (facts : Facts) (bytes : List ℕ) (t : Table) (l : Line) (o : Option Seat) → Linked (λ link. Has s.roster.links link) t.seats →
    seat_by t (player_of l) ≡ o → is_front bytes (due_at (speaker_of s) (own_at own l) (desk_with l o)) ≡ true → Told s own facts l → Said s own (with_given facts (facts.given ++ bytes))
said_gave s own facts bytes t l None links f h k = absurd (no_front bytes h)
said_gave s own facts bytes t l (Some c) links f h k =
    let d : Desk = record { line = l; seat = c } in
    let w = whose_seat s facts.dialled facts.came t c l.name l.dialled links k.named k.by f in
    told_said s own (with_given facts (facts.given ++ bytes)) (gave_on (speaker_of s) (own_at own l) (length bytes) d).line (told_gave s own facts d bytes w.0 w.1 w.2 h k)

-- the count of the seat beside the line
pub count_desk : (s : Setting) (own : List TurnFrame) (facts : Facts) (bytes : List ℕ) (t : Table) (l : Line) (c : Seat) → Linked (λ link. Has s.roster.links link) t.seats →
    seat_by t (player_of l) ≡ Some c → is_front bytes (due_at (speaker_of s) (own_at own l) (desk_with l (Some c))) ≡ true → Told s own facts l →
    Counts s own facts.came (facts.given ++ bytes) c.given (gave_on (speaker_of s) (own_at own l) (length bytes) (record { line = l; seat = c })).seat.given
count_desk s own facts bytes t l c links f h k =
    let d : Desk = record { line = l; seat = c } in
    let w = whose_seat s facts.dialled facts.came t c l.name l.dialled links k.named k.by f in
    count_gave s own facts d bytes w.0 w.1 w.2 h k
