-- Speakers: what is known of a line by what came on its socket and was given on it.
use Rattle.std.proofs.Common.{◌≡◌, ◌⊎◌, inl, inr, ℕ, ◌+◌, Bool, false, refl, sym, ap, subst, ◌∙◌, List, [], ◌∷◌, ◌++◌}
use Rattle.std.specs.Prelude.{Option, Some, None, is_none, is_some, flat_map, if◌then◌else◌}
use Rattle.std.proofs.lemmas.Bool.{false≢true}
use Rattle.definitions.specs.declared.frames.TurnFrame.{TurnFrame}
use Rattle.definition_laws.specs.Members.{Has}
use Rattle.wire_frames.specs.declared.frames.Frame.{Frame}
use Rattle.wire_frames.specs.declared.frames.Frame.TheVariants.{Hello}
use Rattle.wire_frames.specs.Reading.{Reading, at_start}
use Rattle.wire_frames.specs.Spelling.{spelling}
use Rattle.socket_lines.specs.declared.line.Line.{Line}
use Rattle.socket_lines.specs.Lines.{doomed, moved_to, named_line}
use Rattle.loop_rules.specs.Settings.{Setting}
use Rattle.peer_rules.specs.Passes.{IsWanted}
use Rattle.loop_laws.specs.Speaking.{IsNamed, IsAsked, IsOwnHello, AnyNamed, Speaks}
use Rattle.loop_laws.proofs.Frames.{OwnMore, AskedMore, NamedMore, HasMore, Goes, asked_more, named_more, asked_last, goes_follows, goes_more, follows_more, hello_more, any_more}

-- what the items say of the socket: for whom it was dialled, what its reader holds, the frames
-- that came and the bytes that were given
pub record Facts : Type 0 where
  pub dialled : List ℕ
  pub reader : Reading
  pub came : List Frame
  pub given : List ℕ

abbrev pub no_facts : Facts
no_facts = record { dialled = []; reader = at_start; came = []; given = [] }

abbrev pub NameSo : Setting → (came : List Frame) → Option ℕ → Type 0
NameSo s came None = Unit {0}
NameSo s came (Some q) = IsNamed s came q

abbrev pub DialledSo : (dialled : List ℕ) → Option ℕ → Type 0
DialledSo dialled None = Unit {0}
DialledSo dialled (Some q) = Has dialled q

abbrev pub JumpSo : (came : List Frame) → Option ℕ → Type 0
JumpSo came None = Unit {0}
JumpSo came (Some place) = IsAsked came place

-- the own frame that is given in part is the last one; else the cursor stands at the one that
-- comes next
abbrev pub CursorSo : (came : List Frame) → (name last sending : Option ℕ) → (cursor : ℕ) → Type 0
CursorSo came name last None cursor = (name ≡ None) ⊎ ((last ≡ Some cursor) ⊎ IsAsked came cursor)
CursorSo came name last (Some place) cursor = last ≡ Some (place + 1)

-- before the own HELLO nothing was given, and it is due as soon as the socket has a player
abbrev pub SpokenSo : Setting → (own : List TurnFrame) → (dialled : List ℕ) → (came : List Frame) → (unsent : List ℕ) → (hello name by : Option ℕ) → List Frame → (last : Option ℕ) → Type 0
SpokenSo s own dialled came unsent hello name by [] last = (unsent ≡ []) × (last ≡ None) × (hello ≡ None → (name ≡ None) × (by ≡ None))
SpokenSo s own dialled came unsent hello name by (f ∷ more) last =
    (hello ≡ None) × IsOwnHello s dialled came f × Goes own came None more last × AnyNamed s came more × (name ≡ None → by ≡ None → ⊥)

pub record Told (s : Setting) (own : List TurnFrame) (facts : Facts) (l : Line) : Type 0 where
  pub reads : l.reader ≡ facts.reader
  pub unnamed : l.name ≡ None → l.is_wrong ≡ false → facts.came ≡ []
  pub named : NameSo s facts.came l.name
  pub by : DialledSo facts.dialled l.dialled
  pub frames : List Frame
  pub last : Option ℕ
  pub given : facts.given ++ l.unsent ≡ flat_map spelling frames
  pub begun : l.unsent ≡ [] → l.sending ≡ None
  pub jump : JumpSo facts.came l.jump
  pub cursor : CursorSo facts.came l.name last l.sending l.cursor
  pub spoken : SpokenSo s own facts.dialled facts.came l.unsent l.hello l.name l.dialled frames last

-- ---- what is said in the end

pub record Said (s : Setting) (own : List TurnFrame) (facts : Facts) : Type 0 where
  pub frames : List Frame
  pub unsent : List ℕ
  pub given : facts.given ++ unsent ≡ flat_map spelling frames
  pub speaks : Speaks s own facts.dialled facts.came frames

spoken_speaks : (s : Setting) (own : List TurnFrame) (dialled : List ℕ) (came : List Frame) (unsent : List ℕ) (hello name by : Option ℕ) (frames : List Frame) (last : Option ℕ) →
    SpokenSo s own dialled came unsent hello name by frames last → Speaks s own dialled came frames
spoken_speaks s own dialled came unsent hello name by [] last k = tt
spoken_speaks s own dialled came unsent hello name by (f ∷ more) last k = (k.1, goes_follows own came None more last k.2, k.3)

pub told_said : (s : Setting) (own : List TurnFrame) (facts : Facts) (l : Line) → Told s own facts l → Said s own facts
told_said s own facts l k = record {
  frames = k.frames;
  unsent = l.unsent;
  given = k.given;
  speaks = spoken_speaks s own facts.dialled facts.came l.unsent l.hello l.name l.dialled k.frames k.last k.spoken;
}

-- ---- more is known

-- as much is known of the socket, and the same bytes were given
pub record More (s : Setting) (own made : List TurnFrame) (facts more : Facts) : Type 0 where
  pub owns : OwnMore own made
  pub dialled : HasMore facts.dialled more.dialled
  pub asked : AskedMore facts.came more.came
  pub named : NamedMore s facts.came more.came
  pub given : more.given ≡ facts.given

speaks_more : (s : Setting) (own made : List TurnFrame) (facts more : Facts) (frames : List Frame) → More s own made facts more → Speaks s own facts.dialled facts.came frames → Speaks s made more.dialled more.came frames
speaks_more s own made facts more [] m k = tt
speaks_more s own made facts more (f ∷ fs) m k = (
  hello_more s facts.dialled more.dialled facts.came more.came f m.dialled m.named k.0,
  follows_more own made facts.came more.came None fs m.owns m.asked k.1,
  any_more s facts.came more.came fs m.named k.2,
)

pub said_more : (s : Setting) (own made : List TurnFrame) (facts more : Facts) → More s own made facts more → Said s own facts → Said s made more
said_more s own made facts more m k = record {
  frames = k.frames;
  unsent = k.unsent;
  given = ap (λ (x : List ℕ). x ++ k.unsent) m.given ∙ k.given;
  speaks = speaks_more s own made facts more k.frames m k.speaks;
}

name_more : (s : Setting) (came more : List Frame) (o : Option ℕ) → NamedMore s came more → NameSo s came o → NameSo s more o
name_more s came more None n k = tt
name_more s came more (Some q) n k = n q k

by_more : (dialled all : List ℕ) (o : Option ℕ) → HasMore dialled all → DialledSo dialled o → DialledSo all o
by_more dialled all None n k = tt
by_more dialled all (Some q) n k = n q k

jump_more : (came more : List Frame) (o : Option ℕ) → AskedMore came more → JumpSo came o → JumpSo more o
jump_more came more None a k = tt
jump_more came more (Some p) a k = a p k

cursor_more : (came more : List Frame) (name last sending : Option ℕ) (cursor : ℕ) → AskedMore came more → CursorSo came name last sending cursor → CursorSo more name last sending cursor
cursor_more came more name last None cursor a (inl e) = inl e
cursor_more came more name last None cursor a (inr (inl e)) = inr (inl e)
cursor_more came more name last None cursor a (inr (inr x)) = inr (inr (a cursor x))
cursor_more came more name last (Some p) cursor a k = k

spoken_more : (s : Setting) (own made : List TurnFrame) (facts more : Facts) (unsent : List ℕ) (hello name by : Option ℕ) (frames : List Frame) (last : Option ℕ) → More s own made facts more →
    SpokenSo s own facts.dialled facts.came unsent hello name by frames last → SpokenSo s made more.dialled more.came unsent hello name by frames last
spoken_more s own made facts more unsent hello name by [] last m k = k
spoken_more s own made facts more unsent hello name by (f ∷ fs) last m k = (
  k.0,
  hello_more s facts.dialled more.dialled facts.came more.came f m.dialled m.named k.1,
  goes_more own made facts.came more.came None fs last m.owns m.asked k.2,
  any_more s facts.came more.came fs m.named k.3,
  k.4,
)

pub told_more : (s : Setting) (own made : List TurnFrame) (facts more : Facts) (l : Line) → More s own made facts more → more.reader ≡ facts.reader →
    (l.name ≡ None → l.is_wrong ≡ false → more.came ≡ []) → Told s own facts l → Told s made more l
told_more s own made facts more l m e u k = record {
  reads = k.reads ∙ sym e;
  unnamed = u;
  named = name_more s facts.came more.came l.name m.named k.named;
  by = by_more facts.dialled more.dialled l.dialled m.dialled k.by;
  frames = k.frames;
  last = k.last;
  given = ap (λ (x : List ℕ). x ++ l.unsent) m.given ∙ k.given;
  begun = k.begun;
  jump = jump_more facts.came more.came l.jump m.asked k.jump;
  cursor = cursor_more facts.came more.came l.name k.last l.sending l.cursor m.asked k.cursor;
  spoken = spoken_more s own made facts more l.unsent l.hello l.name l.dialled k.frames k.last m k.spoken;
}

-- ---- changes of the line that are told of nowhere

pub told_doomed : (s : Setting) (own : List TurnFrame) (facts : Facts) (l : Line) → Told s own facts l → Told s own facts (doomed l)
told_doomed s own facts l k = record {
  reads = k.reads;
  unnamed = λ e w. absurd (false≢true (sym w));
  named = k.named;
  by = k.by;
  frames = k.frames;
  last = k.last;
  given = k.given;
  begun = k.begun;
  jump = k.jump;
  cursor = k.cursor;
  spoken = k.spoken;
}

-- a change of whether it is open, quiet or blocked
pub told_marked : (s : Setting) (own : List TurnFrame) (facts : Facts) (l : Line) (is_open is_quiet is_blocked : Bool) → Told s own facts l →
    Told s own facts (record l { is_open = is_open; is_quiet = is_quiet; is_blocked = is_blocked })
told_marked s own facts l is_open is_quiet is_blocked k = record {
  reads = k.reads;
  unnamed = k.unnamed;
  named = k.named;
  by = k.by;
  frames = k.frames;
  last = k.last;
  given = k.given;
  begun = k.begun;
  jump = k.jump;
  cursor = k.cursor;
  spoken = k.spoken;
}

-- ---- frames that come

abbrev pub with_came : Facts → List Frame → Facts
with_came facts came = record facts { came = came }

more_came : (s : Setting) (own : List TurnFrame) (facts : Facts) (f : Frame) → More s own own facts (with_came facts (facts.came ++ f ∷ []))
more_came s own facts f = record {
  owns = λ place g e. e;
  dialled = λ q x. x;
  asked = asked_more facts.came (f ∷ []);
  named = named_more s facts.came (f ∷ []);
  given = refl;
}

-- a frame came that changes nothing, where the line has a name or is wrong
pub told_passed : (s : Setting) (own : List TurnFrame) (facts : Facts) (f : Frame) (l : Line) → (l.name ≡ None → l.is_wrong ≡ false → ⊥) → Told s own facts l →
    Told s own (with_came facts (facts.came ++ f ∷ [])) l
told_passed s own facts f l n k = told_more s own own facts (with_came facts (facts.came ++ f ∷ [])) l (more_came s own facts f) refl (λ e w. absurd (n e w)) k

pub told_refused : (s : Setting) (own : List TurnFrame) (facts : Facts) (f : Frame) (l : Line) → Told s own facts l → Told s own (with_came facts (facts.came ++ f ∷ [])) (doomed l)
told_refused s own facts f l k = told_passed s own facts f (doomed l) (λ e w. false≢true (sym w)) (told_doomed s own facts l k)

-- a WANT came that moves the cursor
pub told_moved : (s : Setting) (own : List TurnFrame) (facts : Facts) (place : ℕ) (l : Line) → IsAsked facts.came place → Told s own facts l → Told s own facts (moved_to place l)
told_moved s own facts place l a k = go l.sending refl
  where
    go : (o : Option ℕ) → l.sending ≡ o → Told s own facts (if is_some o then record l { jump = Some place } else record l { cursor = place })
    go None e = record {
      reads = k.reads;
      unnamed = k.unnamed;
      named = k.named;
      by = k.by;
      frames = k.frames;
      last = k.last;
      given = k.given;
      begun = k.begun;
      jump = k.jump;
      cursor = subst (λ (x : Option ℕ). CursorSo facts.came l.name k.last x place) (sym e) (inr (inr a));
      spoken = k.spoken;
    }
    go (Some p) e = record {
      reads = k.reads;
      unnamed = k.unnamed;
      named = k.named;
      by = k.by;
      frames = k.frames;
      last = k.last;
      given = k.given;
      begun = k.begun;
      jump = a;
      cursor = k.cursor;
      spoken = k.spoken;
    }

-- ---- a HELLO that names the socket

-- the own HELLO is due after it, or was given
abbrev hello_then : (by hello : Option ℕ) → (next : ℕ) → Option ℕ
hello_then by hello next = if is_none by then Some next else hello

named_hello : (by hello : Option ℕ) (next : ℕ) → (hello ≡ None → by ≡ None) → hello_then by hello next ≡ None → ⊥
named_hello None hello next k e = let x : Some next ≡ None = e in cc
named_hello (Some p) hello next k e = let x : Some p ≡ None = k e in cc

kept_hello : (by hello : Option ℕ) (next : ℕ) → (by ≡ None → ⊥) → hello_then by hello next ≡ hello
kept_hello None hello next k = absurd (k refl)
kept_hello (Some p) hello next k = refl

spoken_named : (s : Setting) (own : List TurnFrame) (dialled : List ℕ) (came : List Frame) (unsent : List ℕ) (hello by : Option ℕ) (frames : List Frame) (last : Option ℕ) (q next : ℕ) →
    SpokenSo s own dialled came unsent hello None by frames last → SpokenSo s own dialled came unsent (hello_then by hello next) (Some q) by frames last
spoken_named s own dialled came unsent hello by [] last q next k = (k.0, k.1, λ e. absurd (named_hello by hello next (λ h. (k.2 h).1) e))
spoken_named s own dialled came unsent hello by (f ∷ more) last q next k =
    (kept_hello by hello next (k.4 refl) ∙ k.0, k.1, k.2, k.3, λ e b. (let x : Some q ≡ None = e in cc))

cursor_named : (came : List Frame) (name last sending : Option ℕ) (q old place : ℕ) → IsAsked came place → CursorSo came name last sending old → CursorSo came (Some q) last sending place
cursor_named came name last None q old place a k = inr (inr a)
cursor_named came name last (Some p) q old place a k = k

pub told_named : (s : Setting) (own : List TurnFrame) (facts : Facts) (l : Line) (q : ℕ) (pass : List ℕ) (from next : ℕ) → l.name ≡ None → l.is_wrong ≡ false → IsWanted s.roster q pass →
    Told s own facts l → Told s own (with_came facts (facts.came ++ Hello s.game.id q pass from ∷ [])) (named_line q from next l)
told_named s own facts l q pass from next e w wanted k =
    let f : Frame = Hello s.game.id q pass from in
    let all : List Frame = facts.came ++ f ∷ [] in
    let m = more_came s own facts f in
    let none : facts.came ≡ [] = k.unnamed e w in
    let asked : IsAsked all from = asked_last facts.came f from refl in
    let before = subst (λ (x : Option ℕ). SpokenSo s own facts.dialled facts.came l.unsent l.hello x l.dialled k.frames k.last) e k.spoken in
    record {
      reads = k.reads;
      unnamed = λ x y. absurd (let z : Some q ≡ None = x in cc);
      named = (pass, from, [], wanted, ap (λ (x : List Frame). x ++ f ∷ []) none);
      by = k.by;
      frames = k.frames;
      last = k.last;
      given = k.given;
      begun = k.begun;
      jump = jump_more facts.came all l.jump m.asked k.jump;
      cursor = cursor_named all l.name k.last l.sending q l.cursor from asked (cursor_more facts.came all l.name k.last l.sending l.cursor m.asked k.cursor);
      spoken = spoken_named s own facts.dialled all l.unsent l.hello l.dialled k.frames k.last q next
          (spoken_more s own own facts (with_came facts all) l.unsent l.hello None l.dialled k.frames k.last m before);
    }
