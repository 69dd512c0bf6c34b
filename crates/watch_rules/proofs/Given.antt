-- Given: what is given on a socket begins the one WANT by which its HELLO was answered.
use Rattle.std.proofs.Common.{◌≡◌, ◌⊎◌, inl, inr, ℕ, Bool, true, false, refl, sym, ap, subst, ◌∙◌, List, [], ◌∷◌, ◌++◌, append-nil, append_assoc, length}
use Rattle.std.specs.Prelude.{Option, Some, None, ◌==◌, ◌&&◌, ◌||◌, drop, find, map, not, nat_lt, slice_get, if◌then◌else◌}
use Rattle.std.specs.List.{fold}
use Rattle.std.proofs.lemmas.Bool.{and_parts, eq-eqb, eqb-true, false≢true}
use Rattle.std.proofs.lemmas.List.Sums.{fold-append}
use Rattle.plain_lemmas.proofs.Each.{each_kept, each_push}
use Rattle.definitions.specs.Lists.{EachIs}
use Rattle.wire_frames.specs.declared.frames.Frame.{Frame}
use Rattle.wire_frames.specs.declared.frames.Frame.TheVariants.{Hello, Turn, Want}
use Rattle.wire_frames.specs.declared.frames.FedWhat.{FedWhat}
use Rattle.wire_frames.specs.declared.frames.FedWhat.TheVariants as what
use Rattle.wire_frames.specs.Reading.{Reading, Step, fed_step}
use Rattle.wire_frames.specs.Spelling.{spelling}
use Rattle.socket_station.specs.declared.answers.Ready.{Ready}
use Rattle.socket_station.specs.declared.answers.Ready.TheVariants.{Opened, Socket as Seems}
use Rattle.socket_station.specs.declared.answers.Standing.{Standing}
use Rattle.socket_station.specs.declared.answers.Standing.TheVariants.{Fresh}
use Rattle.socket_station.specs.Items.{Item, Call, ListenCall, LogCall, DialCall, PollCall, ReadCall, WriteCall, KeepCall, SyncCall, Listening, LogBegun, Dialled, Polled, Took, Gave, ReadNotYet, WriteNotYet, Ended, Failed, Shut, Kept, Synced}
use Rattle.socket_station.specs.Moved.{gave_at, given_in}
use Rattle.socket_station.specs.Standings.{opens, standing_in, AreNew, OpensNew}
use Rattle.socket_station.proofs.Histories.{given-more, standing-more}
use Rattle.socket_lines.specs.declared.limits.TheConstants.{MOST_ACCEPTED}
use Rattle.socket_lines.specs.declared.line.Line.{Line}
use Rattle.socket_lines.specs.Lines.{accepted_line, blocked, closed, doomed, is_named, quieted, woken}
use Rattle.loop_rules.specs.Tables.{in_lines}
use Rattle.loop_rules.specs.Hearing.{ousted}
use Rattle.loop_rules.specs.Rules.{is_front}
use Rattle.loop_rules.specs.Told.{LineStands, Differ}
use Rattle.loop_rules.proofs.Alike.{found_socket, ousted_same}
use Rattle.loop_rules.proofs.Told.{kept_open}
use Rattle.socket_list.proofs.Pairs.{found_is, found_key, only_one}
use Rattle.deposit_rules.proofs.Fronts.{front_is, front_none}
use Rattle.deposit_rules.proofs.Standings.{fresh_before}
use Rattle.socket_list.specs.Sockets.{Sockets, at_line, fed_line, gave_line, greeted_line, line_of, listed, rested, with_name_free}
use Rattle.log_streams.specs.Streams.{count_at}
use Rattle.watch_rules.specs.Views.{Setting, View, start}
use Rattle.watch_rules.specs.Hearing.{answer_to, greeted, heard, heard_first, named, names, to_shut, took_by, took_on, took_with, with_sockets}
use Rattle.watch_rules.specs.After.{after, on_line, view_of}
use Rattle.watch_rules.specs.Rules.{IsAllowed, are_due, is_allowed, may_give, may_write}
use Rattle.watch_rules.specs.Histories.{AreTold}
use Rattle.watch_rules.specs.Laws.{BeginsWant, GivenIsDue, GivenIsOneWant, IsNamedAt, name_by, name_in}
use Rattle.watch_rules.specs.Told.{IsTold}
use Rattle.watch_rules.proofs.Prefixes.{items_are_allowed}
use Rattle.watch_rules.proofs.Told.{told_goes_on}

due_line : (bytes : List ℕ) (o : Option Line) → are_due bytes o ≡ true → (l : Line) × (o ≡ Some l) × (is_front bytes l.unsent ≡ true)
due_line bytes None e = absurd (false≢true e)
due_line bytes (Some l) e = (l, refl, e)

pub given_is_due : GivenIsDue
given_is_due s items more socket bytes h = due_line bytes (line_of (view_of s items).sockets socket) (and_parts _ _ (items_are_allowed s items more (Gave socket bytes) h)).1

-- ---- what is given on a line, and left of its WANT

-- With these bytes given: before it has a name nothing is given or due, and after that they and
-- what is due are one WANT, of whose player and place this is known.
abbrev GivesOf : (known : ℕ → ℕ → Type 0) → Option ℕ → (given unsent : List ℕ) → Type 0
GivesOf known None given unsent = (given ≡ []) × (unsent ≡ [])
GivesOf known (Some q) given unsent = (place : ℕ) × (given ++ unsent ≡ spelling (Want place)) × known q place

abbrev LineGives : (known : ℕ → ℕ → ℕ → Type 0) → (given : ℕ → List ℕ) → Line → Type 0
LineGives known given l = GivesOf (known l.socket) l.name (given l.socket) l.unsent

-- more is known
of_known : (known more : ℕ → ℕ → Type 0) → ((q place : ℕ) → known q place → more q place) → (o : Option ℕ) (given unsent : List ℕ) → GivesOf known o given unsent → GivesOf more o given unsent
of_known known more k None given unsent g = g
of_known known more k (Some q) given unsent g = (g.0, g.1, k q g.0 g.2)

each_known : (known more : ℕ → ℕ → ℕ → Type 0) (given : ℕ → List ℕ) → ((s q place : ℕ) → known s q place → more s q place) → (ls : List Line) → EachIs (LineGives known given) ls → EachIs (LineGives more given) ls
each_known known more given k ls e = each_kept (LineGives known given) (LineGives more given) ls (λ l g. of_known (known l.socket) (more l.socket) (k l.socket) l.name (given l.socket) l.unsent g) e

-- the same socket, with the same name and as much due
abbrev AsDue : Line → Line → Type 0
AsDue l m = (m.socket ≡ l.socket) × (m.name ≡ l.name) × (m.unsent ≡ l.unsent)

as_due : (known : ℕ → ℕ → ℕ → Type 0) (given : ℕ → List ℕ) (l m : Line) → AsDue l m → LineGives known given l → LineGives known given m
as_due known given l m a g =
    subst (λ (u : List ℕ). GivesOf (known m.socket) m.name (given m.socket) u) (sym a.2)
    (subst (λ (o : Option ℕ). GivesOf (known m.socket) o (given m.socket) l.unsent) (sym a.1) (subst (λ (n : ℕ). GivesOf (known n) l.name (given n) l.unsent) (sym a.0) g))

each_due : (known : ℕ → ℕ → ℕ → Type 0) (given : ℕ → List ℕ) (f : Line → Line) → ((l : Line) → AsDue l (f l)) → (ls : List Line) → EachIs (LineGives known given) ls → EachIs (LineGives known given) (map f ls)
each_due known given f k [] e = tt
each_due known given f k (l ∷ ls) e = (as_due known given l (f l) (k l) e.0, each_due known given f k ls e.1)

due_if : (b : Bool) (l m : Line) → AsDue l m → AsDue l (if b then m else l)
due_if true l m a = a
due_if false l m a = (refl, refl, refl)

at_due : (known : ℕ → ℕ → ℕ → Type 0) (given : ℕ → List ℕ) (s : ℕ) (f : Line → Line) → ((l : Line) → AsDue l (f l)) → (ls : List Line) → EachIs (LineGives known given) ls → EachIs (LineGives known given) (in_lines s f ls)
at_due known given s f k ls e = each_due known given (λ l. if l.socket == s then f l else l) (λ l. due_if (l.socket == s) l (f l) (k l)) ls e

-- what is given changes on no line's socket
each_given : (known : ℕ → ℕ → ℕ → Type 0) (given now : ℕ → List ℕ) → ((n : ℕ) → now n ≡ given n) → (ls : List Line) → EachIs (LineGives known given) ls → EachIs (LineGives known now) ls
each_given known given now k [] e = tt
each_given known given now k (l ∷ ls) e = (subst (λ (x : List ℕ). GivesOf (known l.socket) l.name x l.unsent) (sym (k l.socket)) e.0, each_given known given now k ls e.1)

-- ---- naming

-- a line that has no name, or is another one
ousted_due : (q : ℕ) (l : Line) → AsDue l (ousted q l)
ousted_due q l = due_if (is_named q l) l (doomed l) (refl, refl, refl)

-- the lines of this socket have no name
abbrev Unnamed : ℕ → List Line → Type 0
Unnamed s ls = EachIs (λ l. (l.socket == s) ≡ true → l.name ≡ None) ls

unnamed_map : (s : ℕ) (f : Line → Line) → ((l : Line) → AsDue l (f l)) → (ls : List Line) → Unnamed s ls → Unnamed s (map f ls)
unnamed_map s f k [] u = tt
unnamed_map s f k (l ∷ ls) u = (λ e. (k l).1 ∙ u.0 (ap (λ n. n == s) (sym (k l).0) ∙ e), unnamed_map s f k ls u.1)

greets : (known : ℕ → ℕ → ℕ → Type 0) (given : ℕ → List ℕ) (s q place : ℕ) → known s q place → (ls : List Line) → Unnamed s ls → EachIs (LineGives known given) ls → EachIs (LineGives known given) (in_lines s (greeted_line q (Want place)) ls)
greets known given s q place w [] u e = tt
greets known given s q place w (l ∷ ls) u e = (go (l.socket == s) refl, greets known given s q place w ls u.1 e.1)
  where
    go : (b : Bool) → (l.socket == s) ≡ b → LineGives known given (if b then greeted_line q (Want place) l else l)
    go true h =
        let none : GivesOf (known l.socket) None (given l.socket) l.unsent = subst (λ (o : Option ℕ). GivesOf (known l.socket) o (given l.socket) l.unsent) (u.0 h) e.0 in
        (place, ap (λ (x : List ℕ). x ++ spelling (Want place)) none.0, subst (λ (n : ℕ). known n q place) (sym (eqb-true l.socket s h)) w)
    go false h = e.0

-- ---- the one line of a socket

-- what is so of the line that is found of a socket is so of each line of it
only : (P : Line → Type 0) (s : ℕ) (ls : List Line) (l : Line) → Differ ls → find (λ m. m.socket == s) ls ≡ Some l → P l → EachIs (λ m. (m.socket == s) ≡ true → P m) ls
only P s ls l d f p =
    each_kept (λ (m : Line). m.socket ≡ s → m ≡ l) (λ (m : Line). (m.socket == s) ≡ true → P m) ls (λ m k e. subst P (sym (k (eqb-true m.socket s e))) p)
    (only_one (λ (m : Line). m.socket) s l ls d f)

-- it is found again where all lines changed and kept their sockets
found_map : (f : Line → Line) → ((l : Line) → (f l).socket ≡ l.socket) → (s : ℕ) (ls : List Line) (l : Line) → find (λ m. m.socket == s) ls ≡ Some l → find (λ m. m.socket == s) (map f ls) ≡ Some (f l)
found_map f k s [] l e = absurd (cc)
found_map f k s (x ∷ xs) l e = go (x.socket == s) refl e (found_map f k s xs l)
  where
    more : Option Line
    more = find (λ m. m.socket == s) (map f xs)

    same : (b : Bool) → (x.socket == s) ≡ b → (if (f x).socket == s then Some (f x) else more) ≡ (if b then Some (f x) else more)
    same b h = ap (λ (c : Bool). if c then Some (f x) else more) (ap (λ (n : ℕ). n == s) (k x) ∙ h)

    go : (b : Bool) → (x.socket == s) ≡ b → (if b then Some x else find (λ m. m.socket == s) xs) ≡ Some l → (find (λ m. m.socket == s) xs ≡ Some l → more ≡ Some (f l)) → (if (f x).socket == s then Some (f x) else more) ≡ Some (f l)
    go true h g r = same true h ∙ (let q : x ≡ l = cc in ap (λ (m : Line). Some (f m)) q)
    go false h g r = same false h ∙ r g

-- a socket that is named has its name
has_name : (v : View) (s q : ℕ) (l : Line) → line_of v.sockets s ≡ Some l → name_in (named v s q) s ≡ Some q
has_name v s q l f =
    ap name_by (found_key (λ (m : Line). m.socket) s (greeted_line q (answer_to v q)) (λ x e. e) (map (ousted q) v.sockets.lines) (ousted q l)
    (found_map (ousted q) (λ m. (ousted_same q m).socket) s v.sockets.lines l f))

-- ---- bytes that came

abbrev GivesIn : (known : ℕ → ℕ → ℕ → Type 0) → (given : ℕ → List ℕ) → View → Type 0
GivesIn known given v = EachIs (LineGives known given) v.sockets.lines

-- how many bytes had come of the player's log
abbrev count_in : View → ℕ → ℕ
count_in v q = count_at (slice_get v.streams q)

-- the view when the reader of the socket's first frame took them
abbrev fed_view : View → (s count : ℕ) → Step → View
fed_view v s count step = with_sockets (at_line s (fed_line count step.reader) v.sockets) v

shut_gives : (known : ℕ → ℕ → ℕ → Type 0) (given : ℕ → List ℕ) (s : ℕ) (v : View) → GivesIn known given v → GivesIn known given (to_shut s v)
shut_gives known given s v e = at_due known given s doomed (λ l. (refl, refl, refl)) v.sockets.lines e

named_gives : (known : ℕ → ℕ → ℕ → Type 0) (given : ℕ → List ℕ) (v : View) (s q : ℕ) → known s q (count_in v q) → Unnamed s v.sockets.lines → GivesIn known given v → GivesIn known given (named v s q)
named_gives known given v s q w u e =
    let t = with_name_free q v.sockets in
    greets known given s q (count_in v q) w t.lines (unnamed_map s (ousted q) (ousted_due q) v.sockets.lines u) (each_due known given (ousted q) (ousted_due q) v.sockets.lines e)

first_gives : (known : ℕ → ℕ → ℕ → Type 0) (given : ℕ → List ℕ) (v : View) (s : ℕ) (f : Frame) → ((q : ℕ) → heard_first v s f ≡ named v s q → known s q (count_in v q)) → Unnamed s v.sockets.lines → GivesIn known given v →
    GivesIn known given (heard_first v s f)
first_gives known given v s (Hello id q pass next) k u e = go (names v id q pass) refl
  where
    go : (b : Bool) → names v id q pass ≡ b → GivesIn known given (if b then named v s q else to_shut s v)
    go true h = named_gives known given v s q (k q (ap (λ (b : Bool). if b then named v s q else to_shut s v) h)) u e
    go false h = shut_gives known given s v e
first_gives known given v s (Turn f) k u e = shut_gives known given s v e
first_gives known given v s (Want place) k u e = shut_gives known given s v e

heard_gives : (known : ℕ → ℕ → ℕ → Type 0) (given : ℕ → List ℕ) (v : View) (s : ℕ) (w : FedWhat) → ((q : ℕ) → heard v s w ≡ named v s q → known s q (count_in v q)) → Unnamed s v.sockets.lines → GivesIn known given v →
    GivesIn known given (heard v s w)
heard_gives known given v s what.More k u e = e
heard_gives known given v s (what.Bad place) k u e = shut_gives known given s v e
heard_gives known given v s (what.Whole f) k u e = first_gives known given v s f k u e

greeted_gives : (known : ℕ → ℕ → ℕ → Type 0) (given : ℕ → List ℕ) (v : View) (s count : ℕ) (step : Step) → ((q : ℕ) → greeted v s count step ≡ named (fed_view v s count step) s q → known s q (count_in v q)) →
    Unnamed s v.sockets.lines → GivesIn known given v → GivesIn known given (greeted v s count step)
greeted_gives known given v s count step k u e =
    let f : Line → Line = fed_line count step.reader in
    heard_gives known given (fed_view v s count step) s step.fed.what k
    (unnamed_map s (λ l. if l.socket == s then f l else l) (λ l. due_if (l.socket == s) l (f l) (refl, refl, refl)) v.sockets.lines u)
    (at_due known given s f (λ l. (refl, refl, refl)) v.sockets.lines e)

-- these bytes name the socket of this line for the player
abbrev NamesBy : View → (s : ℕ) → (bytes : List ℕ) → Line → (q : ℕ) → Type 0
NamesBy v s bytes l q = greeted v s (length bytes) (fed_step l.reader bytes) ≡ named (fed_view v s (length bytes) (fed_step l.reader bytes)) s q

by_gives : (known : ℕ → ℕ → ℕ → Type 0) (given : ℕ → List ℕ) (v : View) (s : ℕ) (bytes : List ℕ) (l : Line) (o : Option ℕ) → l.name ≡ o → (l.name ≡ None → (q : ℕ) → NamesBy v s bytes l q → known s q (count_in v q)) →
    (l.name ≡ None → Unnamed s v.sockets.lines) → GivesIn known given v → GivesIn known given (took_by v s bytes l o)
by_gives known given v s bytes l None n k u e = greeted_gives known given v s (length bytes) (fed_step l.reader bytes) (k n) (u n) e
by_gives known given v s bytes l (Some q) n k u e = e

took_gives : (known : ℕ → ℕ → ℕ → Type 0) (given : ℕ → List ℕ) (v : View) (s : ℕ) (bytes : List ℕ) (o : Option Line) → line_of v.sockets s ≡ o → Differ v.sockets.lines →
    ((l : Line) → o ≡ Some l → l.name ≡ None → (q : ℕ) → NamesBy v s bytes l q → known s q (count_in v q)) → GivesIn known given v → GivesIn known given (took_with v s bytes o)
took_gives known given v s bytes None f d k e = e
took_gives known given v s bytes (Some l) f d k e = by_gives known given v s bytes l l.name refl (k l refl) (λ n. only (λ m. m.name ≡ None) s v.sockets.lines l d f n) e

-- ---- polls

listed_gives : (known : ℕ → ℕ → ℕ → Type 0) (given : ℕ → List ℕ) (list : List Ready) (t : Sockets) → ((n : ℕ) → opens list n ≡ true → given n ≡ []) → EachIs (LineGives known given) t.lines → EachIs (LineGives known given) (fold listed t list).lines
listed_gives known given [] t k e = e
listed_gives known given (Opened s ∷ list) t k e =
    let wrong = not (nat_lt t.accepted MOST_ACCEPTED) in
    listed_gives known given list (listed t (Opened s)) (λ n o. k n (either (s == n) (opens list n) o))
    (each_push (LineGives known given) t.lines (accepted_line s wrong) e (k s (ap (λ b. b || opens list s) (eq-eqb s s refl)), refl))
  where
    either : (a b : Bool) → b ≡ true → (a || b) ≡ true
    either true b o = refl
    either false b o = o
listed_gives known given (Seems s ∷ list) t k e = listed_gives known given list (listed t (Seems s)) k (at_due known given s woken (λ l. (refl, refl, refl)) t.lines e)

-- a number that a new list opens was never used
opens_fresh : (standing : ℕ → Standing) (list : List Ready) (n : ℕ) → AreNew standing list → opens list n ≡ true → standing n ≡ Fresh
opens_fresh standing [] n a o = absurd (false≢true o)
opens_fresh standing (Opened s ∷ list) n a o = go (s == n) refl o (opens_fresh standing list n a.2)
  where
    go : (t : Bool) → (s == n) ≡ t → (t || opens list n) ≡ true → (opens list n ≡ true → standing n ≡ Fresh) → standing n ≡ Fresh
    go true e h r = ap standing (sym (eqb-true s n e)) ∙ a.0
    go false e h r = r h
opens_fresh standing (Seems s ∷ list) n a o = opens_fresh standing list n a o

-- ---- item by item

-- what is known of a socket's WANT by these items
abbrev known_by : Setting → List Item → (s q place : ℕ) → Type 0
known_by set items s q place = IsNamedAt set s q place items

known_on : (set : Setting) (items : List Item) (item : Item) (s q place : ℕ) → known_by set items s q place → known_by set (items ++ item ∷ []) s q place
known_on set items item s q place w = record {
  before = w.before;
  piece = w.piece;
  more = w.more ++ item ∷ [];
  stands = ap (λ (x : List Item). x ++ item ∷ []) w.stands ∙ append_assoc w.before (Took s w.piece ∷ w.more) (item ∷ []);
  none = w.none;
  named = w.named;
  place_is = w.place_is;
}

want_on : (set : Setting) (items : List Item) (item : Item) (s : ℕ) (bytes : List ℕ) → BeginsWant set s items bytes → BeginsWant set s (items ++ item ∷ []) bytes
want_on set items item s bytes (inl e) = inl e
want_on set items item s bytes (inr w) = inr (record { player = w.player; place = w.place; rest = w.rest; named = known_on set items item s w.player w.place w.named; begins = w.begins })

record Gives (set : Setting) (items : List Item) (v : View) : Type 0 where
  shown : view_of set items ≡ v
  all : (n : ℕ) → BeginsWant set n items (given_in n items)
  fresh : (n : ℕ) → standing_in items n ≡ Fresh → given_in n items ≡ []
  lines : GivesIn (known_by set items) (λ n. given_in n items) v

shown_on : (set : Setting) (items : List Item) (v : View) (item : Item) → view_of set items ≡ v → view_of set (items ++ item ∷ []) ≡ after v item
shown_on set items v item e = fold-append after (start set) items (item ∷ []) ∙ ap (λ (w : View). after w item) e

-- what is known stays known
lines_on : (set : Setting) (items : List Item) (v : View) (item : Item) → Gives set items v → GivesIn (known_by set (items ++ item ∷ [])) (λ n. given_in n items) v
lines_on set items v item g = each_known (known_by set items) (known_by set (items ++ item ∷ [])) (λ n. given_in n items) (known_on set items item) v.sockets.lines g.lines

-- an item that gives nothing
still : (set : Setting) (items : List Item) (v : View) (item : Item) → ((n : ℕ) → gave_at n item ≡ []) → Gives set items v → GivesIn (known_by set (items ++ item ∷ [])) (λ n. given_in n items) (after v item) → Gives set (items ++ item ∷ []) (after v item)
still set items v item none g lines = record {
  shown = shown_on set items v item g.shown;
  all = λ n. subst (BeginsWant set n (items ++ item ∷ [])) (sym (same n)) (want_on set items item n (given_in n items) (g.all n));
  fresh = λ n e. same n ∙ g.fresh n (fresh_before n (standing_in items n) item (sym (standing-more items item n) ∙ e));
  lines = each_given (known_by set (items ++ item ∷ [])) (λ n. given_in n items) (λ n. given_in n (items ++ item ∷ [])) same (after v item).sockets.lines lines;
}
  where
    same : (n : ℕ) → given_in n (items ++ item ∷ []) ≡ given_in n items
    same n = given-more n items item ∙ ap (λ (x : List ℕ). given_in n items ++ x) (none n) ∙ append-nil (given_in n items)

-- such an item changes one line
line_still : (set : Setting) (items : List Item) (v : View) (item : Item) (s : ℕ) (f : Line → Line) → ((l : Line) → AsDue l (f l)) → ((n : ℕ) → gave_at n item ≡ []) → after v item ≡ on_line s f v → Gives set items v → Gives set (items ++ item ∷ []) (after v item)
line_still set items v item s f due none is g =
    still set items v item none g (subst (GivesIn (known_by set (items ++ item ∷ [])) (λ n. given_in n items)) (sym is) (at_due (known_by set (items ++ item ∷ [])) (λ n. given_in n items) s f due v.sockets.lines (lines_on set items v item g)))

-- bytes that came
took : (set : Setting) (items : List Item) (v : View) (s : ℕ) (bytes : List ℕ) → IsTold items v → Gives set items v → Gives set (items ++ Took s bytes ∷ []) (after v (Took s bytes))
took set items v s bytes told g =
    still set items v item (λ n. refl) g (took_gives (known_by set (items ++ item ∷ [])) (λ n. given_in n items) v s bytes (line_of v.sockets s) refl told.differ known (lines_on set items v item g))
  where
    item : Item
    item = Took s bytes

    known : (l : Line) → line_of v.sockets s ≡ Some l → l.name ≡ None → (q : ℕ) → NamesBy v s bytes l q → known_by set (items ++ item ∷ []) s q (count_in v q)
    known l f n q e = record {
      before = items;
      piece = bytes;
      more = [];
      stands = refl;
      none = ap (λ (w : View). name_in w s) g.shown ∙ ap name_by f ∙ n;
      named =
          ap (λ (w : View). name_in w s) (shown_on set items v item g.shown ∙ ap (took_with v s bytes) f ∙ ap (took_by v s bytes l) n ∙ e)
          ∙ has_name (fed_view v s (length bytes) step) s q (fed_line (length bytes) step.reader l) (found_key (λ (m : Line). m.socket) s (fed_line (length bytes) step.reader) (λ x same. same) v.sockets.lines l f);
      place_is = ap (λ (w : View). count_in w q) (sym g.shown);
    }
      where
        step : Step
        step = fed_step l.reader bytes

-- ---- an item that gives bytes

-- the bytes begin a WANT of which this is known
abbrev Begun : (known : ℕ → ℕ → Type 0) → List ℕ → Type 0
Begun known bytes = (q : ℕ) × (place : ℕ) × (rest : List ℕ) × (bytes ++ rest ≡ spelling (Want place)) × known q place

begins_by : (set : Setting) (items : List Item) (s : ℕ) (bytes : List ℕ) → Begun (known_by set items s) bytes → BeginsWant set s items bytes
begins_by set items s bytes w = inr (record { player = w.0; place = w.1; rest = w.2; named = w.4; begins = w.3 })

gave_gives : (known : ℕ → ℕ → Type 0) (old : List ℕ) (bytes : List ℕ) (l : Line) → is_front bytes l.unsent ≡ true → GivesOf known l.name old l.unsent → GivesOf known l.name (old ++ bytes) (drop (length bytes) l.unsent) × Begun known (old ++ bytes)
gave_gives known old bytes l f g = go l.name g
  where
    go : (o : Option ℕ) → GivesOf known o old l.unsent → GivesOf known o (old ++ bytes) (drop (length bytes) l.unsent) × Begun known (old ++ bytes)
    go None h = absurd (front_none bytes l.unsent h.1 f)
    go (Some q) h =
        let e = append_assoc old bytes (drop (length bytes) l.unsent) ∙ ap (λ (x : List ℕ). old ++ x) (front_is bytes l.unsent f) ∙ h.1 in
        ((h.0, e, h.2), (q, h.0, drop (length bytes) l.unsent, e, h.2))

each_gave : (known : ℕ → ℕ → ℕ → Type 0) (given : ℕ → List ℕ) (s : ℕ) (bytes : List ℕ) (ls : List Line) → EachIs (λ m. (m.socket == s) ≡ true → is_front bytes m.unsent ≡ true) ls → EachIs (LineGives known given) ls →
    EachIs (LineGives known (λ n. given n ++ (if s == n then bytes else []))) (in_lines s (gave_line (length bytes)) ls)
each_gave known given s bytes [] f e = tt
each_gave known given s bytes (l ∷ ls) f e = (go (l.socket == s) refl, each_gave known given s bytes ls f.1 e.1)
  where
    go : (b : Bool) → (l.socket == s) ≡ b → LineGives known (λ n. given n ++ (if s == n then bytes else [])) (if b then gave_line (length bytes) l else l)
    go true h =
        let k : (s == l.socket) ≡ true = eq-eqb s l.socket (sym (eqb-true l.socket s h)) in
        subst (λ (b : Bool). GivesOf (known l.socket) l.name (given l.socket ++ (if b then bytes else [])) (drop (length bytes) l.unsent)) (sym k) (gave_gives (known l.socket) (given l.socket) bytes l (f.0 h) e.0).0
    go false h =
        let k : (s == l.socket) ≡ false = other (s == l.socket) refl in
        subst (λ (b : Bool). GivesOf (known l.socket) l.name (given l.socket ++ (if b then bytes else [])) l.unsent) (sym k) (subst (λ (x : List ℕ). GivesOf (known l.socket) l.name x l.unsent) (sym (append-nil (given l.socket))) e.0)
      where
        other : (b : Bool) → (s == l.socket) ≡ b → b ≡ false
        other false q = refl
        other true q = absurd (false≢true (sym h ∙ eq-eqb l.socket s (sym (eqb-true s l.socket q))))

-- what is found of a socket is of it, and so is what each line is
line_at : (P : Line → Type 0) (s : ℕ) (ls : List Line) (l : Line) → find (λ m. m.socket == s) ls ≡ Some l → EachIs P ls → P l × (l.socket ≡ s)
line_at P s ls l f e = (found_is P (λ (m : Line). m.socket == s) ls l e f, found_socket s ls l f)

gave : (set : Setting) (items : List Item) (v : View) (s : ℕ) (bytes : List ℕ) → IsTold items v → is_allowed v (Gave s bytes) ≡ true → Gives set items v → Gives set (items ++ Gave s bytes ∷ []) (after v (Gave s bytes))
gave set items v s bytes told may g = record {
  shown = shown_on set items v (Gave s bytes) g.shown;
  all = λ n. subst (BeginsWant set n more) (sym (now n)) (begins n (s == n) refl);
  fresh = λ n e. now n ∙ ap (λ (x : List ℕ). x ++ (if s == n then bytes else [])) (g.fresh n (sym (standing-more items (Gave s bytes) n) ∙ e)) ∙ none n e (s == n) refl;
  lines = each_given (known_by set more) (λ n. given_in n items ++ (if s == n then bytes else [])) (λ n. given_in n more) now (in_lines s (gave_line (length bytes)) v.sockets.lines)
      (each_gave (known_by set more) (λ n. given_in n items) s bytes v.sockets.lines (only (λ m. is_front bytes m.unsent ≡ true) s v.sockets.lines found.0 told.differ found.1 found.2) lines);
}
  where
    more : List Item
    more = items ++ Gave s bytes ∷ []

    lines : GivesIn (known_by set more) (λ n. given_in n items) v
    lines = lines_on set items v (Gave s bytes) g

    found : (l : Line) × (line_of v.sockets s ≡ Some l) × (is_front bytes l.unsent ≡ true)
    found = due_line bytes (line_of v.sockets s) (and_parts (may_write v s) (are_due bytes (line_of v.sockets s)) may).1

    here : LineGives (known_by set more) (λ n. given_in n items) found.0 × ((found.0).socket ≡ s)
    here = line_at (LineGives (known_by set more) (λ n. given_in n items)) s v.sockets.lines found.0 found.1 lines

    old : GivesOf (known_by set more s) (found.0).name (given_in s items) (found.0).unsent
    old = subst (λ (n : ℕ). GivesOf (known_by set more n) (found.0).name (given_in n items) (found.0).unsent) here.1 here.0

    now : (n : ℕ) → given_in n more ≡ given_in n items ++ (if s == n then bytes else [])
    now n = given-more n items (Gave s bytes)

    begins : (n : ℕ) (b : Bool) → (s == n) ≡ b → BeginsWant set n more (given_in n items ++ (if s == n then bytes else []))
    begins n true e =
        let same : s ≡ n = eqb-true s n e in
        subst (λ (b : Bool). BeginsWant set n more (given_in n items ++ (if b then bytes else []))) (sym e)
        (subst (λ (k : ℕ). BeginsWant set k more (given_in k items ++ bytes)) same (begins_by set more s (given_in s items ++ bytes) (gave_gives (known_by set more s) (given_in s items) bytes found.0 found.2 old).1))
    begins n false e =
        subst (λ (b : Bool). BeginsWant set n more (given_in n items ++ (if b then bytes else []))) (sym e)
        (subst (BeginsWant set n more) (sym (append-nil (given_in n items))) (want_on set items (Gave s bytes) n (given_in n items) (g.all n)))

    none : (n : ℕ) → standing_in more n ≡ Fresh → (b : Bool) → (s == n) ≡ b → [] ++ (if s == n then bytes else []) ≡ []
    none n e true h =
        let same : s ≡ n = eqb-true s n h in
        let stands = line_at (LineStands items) s v.sockets.lines found.0 found.1 told.stand in
        let fresh : standing_in items n ≡ Fresh = sym (standing-more items (Gave s bytes) n) ∙ e in
        absurd (stands.0.used (ap (standing_in items) (stands.1 ∙ same) ∙ fresh))
    none n e false h = ap (λ (b : Bool). if b then bytes else []) h

-- what a poll lists
polled : (set : Setting) (items : List Item) (v : View) (list : List Ready) → AreNew (standing_in items) list → Gives set items v → Gives set (items ++ Polled list ∷ []) (after v (Polled list))
polled set items v list new g =
    let known = known_by set (items ++ Polled list ∷ []) in
    still set items v (Polled list) (λ n. refl) g
    (listed_gives known (λ n. given_in n items) list (rested v.sockets) (λ n k. g.fresh n (opens_fresh (standing_in items) list n new k))
    (kept_open (LineGives known (λ n. given_in n items)) v.sockets.lines (lines_on set items v (Polled list) g)))

gives_on : (set : Setting) (items : List Item) (v : View) (item : Item) → IsTold items v → OpensNew items item → is_allowed v item ≡ true → Gives set items v → Gives set (items ++ item ∷ []) (after v item)
gives_on set items v (LogBegun name) t o a g = absurd (false≢true a)
gives_on set items v (Listening addr) t o a g = still set items v (Listening addr) (λ n. refl) g (lines_on set items v (Listening addr) g)
gives_on set items v (Dialled s q addr) t o a g = absurd (false≢true a)
gives_on set items v (Polled list) t o a g = polled set items v list o g
gives_on set items v (Took s bytes) t o a g = took set items v s bytes t g
gives_on set items v (Gave s bytes) t o a g = gave set items v s bytes t a g
gives_on set items v (ReadNotYet s) t o a g = line_still set items v (ReadNotYet s) s quieted (λ l. (refl, refl, refl)) (λ n. refl) refl g
gives_on set items v (WriteNotYet s) t o a g = line_still set items v (WriteNotYet s) s blocked (λ l. (refl, refl, refl)) (λ n. refl) refl g
gives_on set items v (Ended s) t o a g = line_still set items v (Ended s) s closed (λ l. (refl, refl, refl)) (λ n. refl) refl g
gives_on set items v (Shut s) t o a g = line_still set items v (Shut s) s closed (λ l. (refl, refl, refl)) (λ n. refl) refl g
gives_on set items v (Kept bytes) t o a g = absurd (false≢true a)
gives_on set items v Synced t o a g = absurd (false≢true a)
gives_on set items v (Failed (ListenCall addr)) t o a g = still set items v (Failed (ListenCall addr)) (λ n. refl) g (lines_on set items v (Failed (ListenCall addr)) g)
gives_on set items v (Failed (LogCall name)) t o a g = absurd (false≢true a)
gives_on set items v (Failed (DialCall q addr)) t o a g = absurd (false≢true a)
gives_on set items v (Failed PollCall) t o a g = still set items v (Failed PollCall) (λ n. refl) g (lines_on set items v (Failed PollCall) g)
gives_on set items v (Failed (ReadCall s)) t o a g = line_still set items v (Failed (ReadCall s)) s closed (λ l. (refl, refl, refl)) (λ n. refl) refl g
gives_on set items v (Failed (WriteCall s)) t o a g = line_still set items v (Failed (WriteCall s)) s closed (λ l. (refl, refl, refl)) (λ n. refl) refl g
gives_on set items v (Failed (KeepCall bytes)) t o a g = absurd (false≢true a)
gives_on set items v (Failed SyncCall) t o a g = absurd (false≢true a)

all_gives : (set : Setting) (before items : List Item) (v : View) → IsTold before v → Gives set before v → AreTold v before items → (n : ℕ) → BeginsWant set n (before ++ items) (given_in n (before ++ items))
all_gives set before [] v told g a n = subst (λ (xs : List Item). BeginsWant set n xs (given_in n xs)) (sym (append-nil before)) (g.all n)
all_gives set before (item ∷ items) v told g a n =
    subst (λ (xs : List Item). BeginsWant set n xs (given_in n xs)) (append_assoc before (item ∷ []) items)
    (all_gives set (before ++ item ∷ []) items (after v item) (told_goes_on before v item told a.0 a.1) (gives_on set before v item told a.0 a.1 g) a.2 n)

pub given_is_one_want : GivenIsOneWant
given_is_one_want s items socket a =
    all_gives s [] items (start s) (record { allowed = refl; told = tt; shown = refl; stand = tt; differ = tt }) (record { shown = refl; all = λ n. inl refl; fresh = λ n e. refl; lines = tt }) a socket
