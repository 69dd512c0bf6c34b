-- Taken: what bytes that came leave as it was, and how much less may still come.
use Rattle.std.proofs.Common.{◌≡◌, ℕ, ◌+◌, ◌-◌, ◌<◌, ◌≤◌, Bool, true, false, refl, sym, ap, subst, ◌∙◌, List, [], ◌∷◌, ◌++◌, arith, length}
use Rattle.std.specs.Prelude.{Option, Some, None, ◌&&◌, ◌||◌, ◌==◌, flat_map, not, slice_get, if◌then◌else◌}
use Rattle.std.proofs.lemmas.Bool.{eq-eqb, eqb-true, false≢true}
use Rattle.std.proofs.lemmas.Option.{slice_get_within}
use Rattle.definitions.specs.declared.limits.TheConstants.{LONGEST_LOG}
use Rattle.definitions.specs.World.{Game}
use Rattle.wire_frames.specs.declared.frames.Frame.{Frame}
use Rattle.wire_frames.specs.declared.frames.Frame.TheVariants.{Hello, Turn, Want}
use Rattle.wire_frames.specs.declared.frames.FedWhat.{FedWhat}
use Rattle.wire_frames.specs.declared.frames.FedWhat.TheVariants as what
use Rattle.wire_frames.specs.Reading.{Step, fed_step}
use Rattle.socket_lines.specs.declared.line.Line.{Line}
use Rattle.socket_lines.specs.Lines.{doomed, is_named, unnamed_room}
use Rattle.loop_rules.specs.Hearing.{ousted}
use Rattle.loop_rules.specs.Told.{Differ}
use Rattle.loop_rules.proofs.Alike.{Alike, alike_at, alike_map, differ_alike, ousted_same}
use Rattle.socket_list.proofs.Pairs.{map_at}
use Rattle.socket_list.specs.Sockets.{Sockets, IsAt, at_line, fed_line, greeted_line, with_name_free}
use Rattle.log_streams.specs.Streams.{Stream, count_of, gone_on, is_others, room_at, room_of, took, took_of, with_stream}
use Rattle.watch_rules.specs.Views.{View}
use Rattle.watch_rules.specs.Hearing.{answer_to, greeted, heard, heard_first, logged, named, names, room_by, room_on, to_shut, took_by, with_sockets}
use Rattle.watch_rules.specs.After.{on_line}
use Rattle.watch_rules.specs.Rules.{wants_read}
use Rattle.watch_rules.proofs.Told.{fed_same, heard_keeps}
use Rattle.log_books.proofs.Lists.{same_get, set_beside, set_here}
use Rattle.log_streams.proofs.Streams.{count_more}
use Rattle.live_logger.specs.Reading.{NoMoreReads, left_at, left_by, more_unnamed}
use Rattle.live_logger.proofs.Places.{alike_back, at_alike, at_beside, at_here}

-- ---- how much is left of a log

room_few : (s : Stream) → room_of s ≤ LONGEST_LOG
room_few s = go s.is_closed
  where
    go : (b : Bool) → (if b then 0 else LONGEST_LOG - count_of s) ≤ LONGEST_LOG
    go true = omega arith
    go false = omega arith

pub room_most : (o : Option Stream) → room_at o ≤ LONGEST_LOG
room_most None = omega arith
room_most (Some s) = room_few s

-- bytes that came leave less room, where there was any
pub took_less : (game : Game) (q : ℕ) (s : Stream) (bytes : List ℕ) → 0 < length bytes → length bytes ≤ room_of s → room_of (took game q s bytes) < room_of s
took_less game q s bytes some few = go ((count_of s == 0) && is_others q bytes)
  where
    all : room_of s ≤ LONGEST_LOG - count_of s
    all = unclosed s.is_closed
      where
        unclosed : (b : Bool) → (if b then 0 else LONGEST_LOG - count_of s) ≤ LONGEST_LOG - count_of s
        unclosed true = omega arith
        unclosed false = omega arith

    whole : 0 < room_of s → room_of s ≡ LONGEST_LOG - count_of s
    whole = unclosed s.is_closed
      where
        unclosed : (b : Bool) → 0 < (if b then 0 else LONGEST_LOG - count_of s) → (if b then 0 else LONGEST_LOG - count_of s) ≡ LONGEST_LOG - count_of s
        unclosed true lt = absurd (omega (arith, lt))
        unclosed false lt = refl

    more : (b : Bool) → (if b then 0 else LONGEST_LOG - length (flat_map (λ p. p) (s.pieces ++ bytes ∷ []))) < room_of s
    more true = omega (arith, some, few)
    more false = (let n : length (flat_map (λ p. p) (s.pieces ++ bytes ∷ [])) ≡ count_of s + length bytes = count_more game s bytes in let w = whole (omega (arith, some, few)) in omega (arith, n, w, some, few))

    go : (b : Bool) → room_of (if b then record s { is_closed = true } else gone_on game (s.pieces ++ bytes ∷ [])) < room_of s
    go true = omega (arith, some, few)
    go false = more (gone_on game (s.pieces ++ bytes ∷ [])).is_closed

-- of all players: less of this one, and as much of the others
took_here : (game : Game) (q : ℕ) (bytes : List ℕ) (ss : List Stream) → 0 < length bytes → length bytes ≤ room_at (slice_get ss q) → room_at (slice_get (took_of game q bytes ss) q) < room_at (slice_get ss q)
took_here game q bytes ss some few = go (slice_get ss q) refl few
  where
    go : (o : Option Stream) → slice_get ss q ≡ o → length bytes ≤ room_at o → room_at (slice_get (with_stream game q bytes ss o) q) < room_at o
    go None e f = absurd (omega (arith, some, f))
    go (Some s) e f =
        subst (λ (o : Option Stream). room_at o < room_of s) (sym (set_here ss q (took game q s bytes) (slice_get_within ss q s e))) (took_less game q s bytes some f)

took_other : (game : Game) (q p : ℕ) (bytes : List ℕ) (ss : List Stream) → (p ≡ q → ⊥) → slice_get (took_of game q bytes ss) p ≡ slice_get ss p
took_other game q p bytes ss n = go (slice_get ss q)
  where
    go : (o : Option Stream) → slice_get (with_stream game q bytes ss o) p ≡ slice_get ss p
    go None = refl
    go (Some s) = set_beside ss q p (took game q s bytes) n

took_room : (game : Game) (q p : ℕ) (bytes : List ℕ) (ss : List Stream) → 0 < length bytes → length bytes ≤ room_at (slice_get ss q) → room_at (slice_get (took_of game q bytes ss) p) ≤ room_at (slice_get ss p)
took_room game q p bytes ss some few = go (p == q) refl
  where
    go : (b : Bool) → (p == q) ≡ b → room_at (slice_get (took_of game q bytes ss) p) ≤ room_at (slice_get ss p)
    go true e =
        let same : p ≡ q = eqb-true p q e in
        let less = took_here game q bytes ss some few in
        subst (λ (n : ℕ). room_at (slice_get (took_of game q bytes ss) n) ≤ room_at (slice_get ss n)) (sym same) (omega (arith, less))
    go false e = ap-le (took_other game q p bytes ss (λ x. false≢true (sym e ∙ eq-eqb p q x)))
      where
        ap-le : slice_get (took_of game q bytes ss) p ≡ slice_get ss p → room_at (slice_get (took_of game q bytes ss) p) ≤ room_at (slice_get ss p)
        ap-le h = (let n = ap room_at h in omega (arith, n))

-- ---- a socket that is to be read where less may be, was to be read

wants_less : (v w : View) (l : Line) → room_on w l ≤ room_on v l → wants_read w l ≡ true → wants_read v l ≡ true
wants_less v w l le e = go l.is_open l.is_wrong l.is_quiet (room_on w l == 0) (room_on v l == 0) (zero_too (room_on w l) (room_on v l) le) e
  where
    zero_too : (m n : ℕ) → m ≤ n → (n == 0) ≡ true → (m == 0) ≡ true
    zero_too m n k h = (let z : n ≡ 0 = eqb-true n 0 h in eq-eqb m 0 (omega (arith, k, z)))

    go : (o w q a b : Bool) → (b ≡ true → a ≡ true) → (o && not (o && (w || a)) && not q) ≡ true → (o && not (o && (w || b)) && not q) ≡ true
    go false w q a b k h = h
    go true true q a b k h = h
    go true false q a false k h = right q a h
      where
        right : (q a : Bool) → (not a && not q) ≡ true → (true && not q) ≡ true
        right q true h = absurd (false≢true h)
        right q false h = h
    go true false q true true k h = h
    go true false q false true k h = absurd (false≢true (k refl))

-- one that is to be shut is not to be read
doomed_none : (v : View) (l : Line) → wants_read v (doomed l) ≡ true → ⊥
doomed_none v l e = go l.is_open l.is_quiet e
  where
    go : (o q : Bool) → (o && not (o && true) && not q) ≡ true → ⊥
    go true q h = false≢true h
    go false q h = false≢true h

ousted_wants : (v : View) (q : ℕ) (l : Line) → wants_read v (ousted q l) ≡ true → wants_read v l ≡ true
ousted_wants v q l e = go (is_named q l) e
  where
    go : (b : Bool) → wants_read v (if b then doomed l else l) ≡ true → wants_read v l ≡ true
    go true h = absurd (doomed_none v l h)
    go false h = h

-- ---- the other sockets

pub no_more_same : (k : ℕ) (v : View) → NoMoreReads k v v
no_more_same k v j x y g h n e = let s : x ≡ y = same_get (slice_get v.sockets.lines j) x y g h in subst (λ (z : Line). wants_read v z ≡ true) (sym s) e

pub no_more_then : (k : ℕ) (u v w : View) → Alike v.sockets.lines w.sockets.lines → NoMoreReads k u v → NoMoreReads k v w → NoMoreReads k u w
no_more_then k u v w a c d j x z g h n e =
    let m = alike_back v.sockets.lines w.sockets.lines j z a h in
    c j x m.0 g m.1 n (d j m.0 z m.1 h n e)

-- one line changes
pub no_more_line : (k s : ℕ) (f : Line → Line) (v : View) → IsAt v.sockets k s → Differ v.sockets.lines → NoMoreReads k v (on_line s f v)
no_more_line k s f v at d j x y g h n e =
    let same : y ≡ x = same_get (slice_get v.sockets.lines j) y x (sym (at_beside v.sockets k s j f at d n) ∙ h) g in
    subst (λ (z : Line). wants_read v z ≡ true) same e

no_more_named : (k s q : ℕ) (v : View) → IsAt v.sockets k s → Differ v.sockets.lines → NoMoreReads k v (named v s q)
no_more_named k s q v at d j x y g h n e =
    let t : Sockets = with_name_free q v.sockets in
    let a = alike_map (ousted q) (ousted_same q) v.sockets.lines in
    let now : slice_get t.lines j ≡ Some y = sym (at_beside t k s j (greeted_line q (answer_to v q)) (at_alike v.sockets t k s a at) (differ_alike v.sockets.lines t.lines a d) n) ∙ h in
    let is : y ≡ ousted q x = same_get (slice_get t.lines j) y (ousted q x) now (map_at (ousted q) v.sockets.lines j x g) in
    ousted_wants v q x (subst (λ (z : Line). wants_read v z ≡ true) is e)

no_more_first : (k s : ℕ) (v : View) (f : Frame) → IsAt v.sockets k s → Differ v.sockets.lines → NoMoreReads k v (heard_first v s f)
no_more_first k s v (Hello id q pass next) at d = go (names v id q pass)
  where
    go : (b : Bool) → NoMoreReads k v (if b then named v s q else to_shut s v)
    go true = no_more_named k s q v at d
    go false = no_more_line k s doomed v at d
no_more_first k s v (Turn f) at d = no_more_line k s doomed v at d
no_more_first k s v (Want place) at d = no_more_line k s doomed v at d

no_more_heard : (k s : ℕ) (v : View) (w : FedWhat) → IsAt v.sockets k s → Differ v.sockets.lines → NoMoreReads k v (heard v s w)
no_more_heard k s v what.More at d = no_more_same k v
no_more_heard k s v (what.Bad place) at d = no_more_line k s doomed v at d
no_more_heard k s v (what.Whole f) at d = no_more_first k s v f at d

no_more_greeted : (k s count : ℕ) (v : View) (step : Step) → IsAt v.sockets k s → Differ v.sockets.lines → NoMoreReads k v (greeted v s count step)
no_more_greeted k s count v step at d =
    let u : View = with_sockets (at_line s (fed_line count step.reader) v.sockets) v in
    let a = alike_at s (fed_line count step.reader) (fed_same count step.reader) v.sockets.lines in
    no_more_then k v u (greeted v s count step) (heard_keeps u s step.fed.what).lines (no_more_line k s (fed_line count step.reader) v at d)
    (no_more_heard k s u step.fed.what (at_alike v.sockets u.sockets k s a at) (differ_alike v.sockets.lines u.sockets.lines a d))

no_more_logged : (k q : ℕ) (v : View) (bytes : List ℕ) → 0 < length bytes → length bytes ≤ room_at (slice_get v.streams q) → NoMoreReads k v (logged v q bytes)
no_more_logged k q v bytes some few j x y g h n e =
    let same : y ≡ x = same_get (slice_get v.sockets.lines j) y x h g in
    wants_less v (logged v q bytes) x (room x.name) (subst (λ (z : Line). wants_read (logged v q bytes) z ≡ true) same e)
  where
    room : (o : Option ℕ) → room_by (logged v q bytes) x o ≤ room_by v x o
    room None = omega arith
    room (Some p) = took_room v.setting.game q p bytes v.streams some few

pub no_more_took : (k s : ℕ) (v : View) (bytes : List ℕ) (at : IsAt v.sockets k s) → Differ v.sockets.lines → 0 < length bytes → length bytes ≤ room_on v at.0 → NoMoreReads k v (took_by v s bytes at.0 (at.0).name)
no_more_took k s v bytes at d some few = go (at.0).name few
  where
    go : (o : Option ℕ) → length bytes ≤ room_by v at.0 o → NoMoreReads k v (took_by v s bytes at.0 o)
    go None f = no_more_greeted k s (length bytes) v (fed_step (at.0).reader bytes) at d
    go (Some q) f = no_more_logged k q v bytes some f

-- ---- how much is left on the socket

-- a line that is not to be read any more
pub left_none : (k s : ℕ) (f : Line → Line) (v : View) (at : IsAt v.sockets k s) → Differ v.sockets.lines → wants_read v (f at.0) ≡ false → left_at k (on_line s f v) ≡ 0
left_none k s f v at d none =
    ap (left_by (on_line s f v)) (at_here v.sockets k s f at d) ∙ ap (λ (b : Bool). if b then (room_on v (f at.0) + more_unnamed (f at.0).name) + 1 else 0) none

doomed_left : (k s : ℕ) (v : View) (at : IsAt v.sockets k s) → Differ v.sockets.lines → left_at k (to_shut s v) ≡ 0
doomed_left k s v at d = left_none k s doomed v at d (none (wants_read v (doomed at.0)) refl)
  where
    none : (b : Bool) → wants_read v (doomed at.0) ≡ b → wants_read v (doomed at.0) ≡ false
    none true e = absurd (doomed_none v at.0 e)
    none false e = e

-- at most this is left by a line
left_most : (v : View) (l : Line) → left_by v (Some l) ≤ (room_on v l + more_unnamed l.name) + 1
left_most v l = go (wants_read v l)
  where
    go : (b : Bool) → (if b then (room_on v l + more_unnamed l.name) + 1 else 0) ≤ (room_on v l + more_unnamed l.name) + 1
    go true = omega arith
    go false = omega arith

named_left : (k s q : ℕ) (v : View) → IsAt v.sockets k s → Differ v.sockets.lines → left_at k (named v s q) ≤ LONGEST_LOG + 1
named_left k s q v at d =
    let t : Sockets = with_name_free q v.sockets in
    let a = alike_map (ousted q) (ousted_same q) v.sockets.lines in
    let here = at_alike v.sockets t k s a at in
    let m : Line = greeted_line q (answer_to v q) here.0 in
    let e = ap (left_by (named v s q)) (at_here t k s (greeted_line q (answer_to v q)) here (differ_alike v.sockets.lines t.lines a d)) in
    let most = left_most (named v s q) m in
    let room = room_most (slice_get v.streams q) in
    omega (arith, e, most, room)

first_left : (k s : ℕ) (v : View) (f : Frame) → IsAt v.sockets k s → Differ v.sockets.lines → left_at k (heard_first v s f) ≤ LONGEST_LOG + 1
first_left k s v (Hello id q pass next) at d = go (names v id q pass)
  where
    go : (b : Bool) → left_at k (if b then named v s q else to_shut s v) ≤ LONGEST_LOG + 1
    go true = named_left k s q v at d
    go false = (let z = doomed_left k s v at d in omega (arith, z))
first_left k s v (Turn f) at d = (let z = doomed_left k s v at d in omega (arith, z))
first_left k s v (Want place) at d = (let z = doomed_left k s v at d in omega (arith, z))

greeted_left : (k s count : ℕ) (v : View) (step : Step) (at : IsAt v.sockets k s) → Differ v.sockets.lines → (at.0).name ≡ None → 0 < count → count ≤ unnamed_room at.0 → left_at k (greeted v s count step) < (unnamed_room at.0 + (LONGEST_LOG + 1)) + 1
greeted_left k s count v step at d none some few = go step.fed.what
  where
    f : Line → Line
    f = fed_line count step.reader

    u : View
    u = with_sockets (at_line s f v.sockets) v

    alike_u : Alike v.sockets.lines u.sockets.lines
    alike_u = alike_at s f (fed_same count step.reader) v.sockets.lines

    at_u : IsAt u.sockets k s
    at_u = at_alike v.sockets u.sockets k s alike_u at

    differ_u : Differ u.sockets.lines
    differ_u = differ_alike v.sockets.lines u.sockets.lines alike_u d

    go : (w : FedWhat) → left_at k (heard u s w) < (unnamed_room at.0 + (LONGEST_LOG + 1)) + 1
    go what.More =
        let e = ap (left_by u) (at_here v.sockets k s f at d) in
        let most = left_most u (f at.0) in
        let room = ap (λ (o : Option ℕ). room_by u (f at.0) o + more_unnamed o) none in
        omega (arith, e, most, room, some, few)
    go (what.Bad place) = (let z = doomed_left k s u at_u differ_u in omega (arith, z))
    go (what.Whole frame) = (let z = first_left k s u frame at_u differ_u in omega (arith, z, some, few))

logged_left : (k s q : ℕ) (v : View) (bytes : List ℕ) (at : IsAt v.sockets k s) → (at.0).name ≡ Some q → 0 < length bytes → length bytes ≤ room_at (slice_get v.streams q) → left_at k (logged v q bytes) < (room_at (slice_get v.streams q) + 0) + 1
logged_left k s q v bytes at name some few =
    let w : View = logged v q bytes in
    let e = ap (left_by w) at.1 in
    let most = left_most w at.0 in
    let room = ap (λ (o : Option ℕ). room_by w at.0 o + more_unnamed o) name in
    let less = took_here v.setting.game q bytes v.streams some few in
    omega (arith, e, most, room, less)

-- what was left where it is to be read
pub left_wants : (k s : ℕ) (v : View) (at : IsAt v.sockets k s) → wants_read v at.0 ≡ true → left_at k v ≡ (room_on v at.0 + more_unnamed (at.0).name) + 1
left_wants k s v at wants = ap (left_by v) at.1 ∙ ap (λ (b : Bool). if b then (room_on v at.0 + more_unnamed (at.0).name) + 1 else 0) wants

pub took_left : (k s : ℕ) (v : View) (bytes : List ℕ) (at : IsAt v.sockets k s) → Differ v.sockets.lines → wants_read v at.0 ≡ true → 0 < length bytes → length bytes ≤ room_on v at.0 →
    left_at k (took_by v s bytes at.0 (at.0).name) < left_at k v
took_left k s v bytes at d wants some few = subst (λ (n : ℕ). left_at k (took_by v s bytes at.0 (at.0).name) < n) (sym (left_wants k s v at wants)) (go (at.0).name refl few)
  where
    go : (o : Option ℕ) → (at.0).name ≡ o → length bytes ≤ room_by v at.0 o → left_at k (took_by v s bytes at.0 o) < (room_by v at.0 o + more_unnamed o) + 1
    go None e f = greeted_left k s (length bytes) v (fed_step (at.0).reader bytes) at d e some f
    go (Some q) e f = logged_left k s q v bytes at e some f
