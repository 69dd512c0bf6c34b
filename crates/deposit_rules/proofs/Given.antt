-- Given: what is given on a socket begins the HELLO and the log from the place wanted on.
use Rattle.std.proofs.Common.{◌≡◌, ◌⊎◌, inl, inr, ℕ, ◌+◌, Bool, true, false, refl, sym, ap, subst, ◌∙◌, List, [], ◌∷◌, ◌++◌, append-nil, append_assoc, length}
use Rattle.std.specs.Prelude.{Option, Some, None, ◌==◌, drop, option_map, if◌then◌else◌}
use Rattle.std.specs.List.{fold}
use Rattle.std.proofs.lemmas.Bool.{and_parts, eq-eqb, eqb-true, false≢true}
use Rattle.std.proofs.lemmas.List.{drop-drop}
use Rattle.definitions.specs.Lists.{is_empty}
use Rattle.wire_frames.specs.declared.frames.Frame.{Frame}
use Rattle.wire_frames.specs.declared.frames.Frame.TheVariants.{Hello, Turn, Want}
use Rattle.wire_frames.specs.Spelling.{spelling}
use Rattle.wire_frames.specs.Streams.{Given, given_of}
use Rattle.socket_station.specs.declared.answers.Addr.{Addr}
use Rattle.socket_station.specs.declared.answers.Ready.{Ready}
use Rattle.socket_station.specs.declared.answers.Ready.TheVariants.{Opened, Socket as Seems}
use Rattle.socket_station.specs.declared.answers.Standing.TheVariants.{Fresh, Open}
use Rattle.socket_station.specs.Items.{Item, ListenCall, LogCall, DialCall, PollCall, ReadCall, WriteCall, KeepCall, SyncCall, Listening, LogBegun, Dialled, Polled, Took, Gave, ReadNotYet, WriteNotYet, Ended, Failed, Shut, Kept, Synced}
use Rattle.socket_station.specs.Moved.{gave_at, given_in}
use Rattle.socket_station.specs.Standings.{standing_in, OpensNew}
use Rattle.socket_station.proofs.Histories.{given-more, standing-more}
use Rattle.loop_rules.specs.Rules.{is_front}
use Rattle.deposit_rules.specs.declared.line.DepositLine.{DepositLine}
use Rattle.deposit_rules.specs.Lines.{blocked, closed, doomed_if, fed, gave, heard, heard_frame, quieted, took, wanted, woken}
use Rattle.deposit_rules.specs.Views.{Setting, View, hello, start}
use Rattle.deposit_rules.specs.After.{after, listed, on_line, rested, view_after, view_of, with_line}
use Rattle.deposit_rules.specs.Rules.{due, from, is_allowed, is_its, may_write, wants_write}
use Rattle.deposit_rules.specs.Laws.{AreTold, GivenIsHelloAndLog, BeginsHelloAndLog, IsWanted}
use Rattle.deposit_rules.proofs.Fronts.{front_is, front_none}
use Rattle.deposit_rules.proofs.Standings.{fresh_before}

-- ---- what is given on a line, and left of it

-- The log from the place wanted on is what was given of it, and what is due; while the HELLO isn't
-- wholly given nothing was.
record GivesLog (log : List ℕ) (s : Setting) (socket : ℕ) (items : List Item) (given unsent : List ℕ) (at : ℕ) : Type 0 where
  place : ℕ
  part : List ℕ
  wanted : IsWanted s socket place items
  split : given ++ unsent ≡ spelling (hello s) ++ part
  begins : part ++ drop at log ≡ drop place log
  whole : (part ≡ []) ⊎ (unsent ≡ [])

abbrev GivesOf : (log : List ℕ) → Setting → (socket : ℕ) → List Item → (given unsent : List ℕ) → Option ℕ → Type 0
GivesOf log s socket items given unsent None = given ++ unsent ≡ spelling (hello s)
GivesOf log s socket items given unsent (Some at) = GivesLog log s socket items given unsent at

abbrev LineGives : (log : List ℕ) → Setting → List Item → DepositLine → Type 0
LineGives log s items w = GivesOf log s w.socket items (given_in w.socket items) w.unsent w.cursor

gives_so : (log : List ℕ) (s : Setting) (socket : ℕ) (items : List Item) (given unsent : List ℕ) (o : Option ℕ) → GivesOf log s socket items given unsent o → BeginsHelloAndLog log s socket items given
gives_so log s socket items given unsent None g = inl (unsent, g)
gives_so log s socket items given unsent (Some at) g = go g.whole
  where
    go : (g.part ≡ []) ⊎ (unsent ≡ []) → BeginsHelloAndLog log s socket items given
    go (inl e) = inl (unsent, g.split ∙ ap (λ (x : List ℕ). spelling (hello s) ++ x) e ∙ append-nil (spelling (hello s)))
    go (inr e) = inr (record {
      place = g.place;
      part = g.part;
      rest = drop at log;
      wanted = g.wanted;
      split = sym (append-nil given) ∙ ap (λ (x : List ℕ). given ++ x) (sym e) ∙ g.split;
      begins = g.begins;
    })

-- ---- items after it

wanted_on : (s : Setting) (socket place : ℕ) (items : List Item) (item : Item) → IsWanted s socket place items → IsWanted s socket place (items ++ item ∷ [])
wanted_on s socket place items item w = record {
  before = w.before;
  piece = w.piece;
  more = w.more ++ item ∷ [];
  stands = ap (λ (x : List Item). x ++ item ∷ []) w.stands ∙ append_assoc w.before (Took socket w.piece ∷ w.more) (item ∷ []);
  none = w.none;
  first = w.first;
}

of_on : (log : List ℕ) (s : Setting) (socket : ℕ) (items : List Item) (item : Item) (given unsent : List ℕ) (o : Option ℕ) → GivesOf log s socket items given unsent o → GivesOf log s socket (items ++ item ∷ []) given unsent o
of_on log s socket items item given unsent None g = g
of_on log s socket items item given unsent (Some at) g = record {
  place = g.place;
  part = g.part;
  wanted = wanted_on s socket g.place items item g.wanted;
  split = g.split;
  begins = g.begins;
  whole = g.whole;
}

so_on : (log : List ℕ) (s : Setting) (socket : ℕ) (items : List Item) (item : Item) (given : List ℕ) → BeginsHelloAndLog log s socket items given → BeginsHelloAndLog log s socket (items ++ item ∷ []) given
so_on log s socket items item given (inl g) = inl g
so_on log s socket items item given (inr g) = inr (record {
  place = g.place;
  part = g.part;
  rest = g.rest;
  wanted = wanted_on s socket g.place items item g.wanted;
  split = g.split;
  begins = g.begins;
})

-- ---- the line after an item that gives nothing

-- an open line was open, with the same socket, as much due and the same place
abbrev Follows : DepositLine → DepositLine → Type 0
Follows w m = m.is_open ≡ true → (w.is_open ≡ true) × (m.socket ≡ w.socket) × (m.unsent ≡ w.unsent) × (m.cursor ≡ w.cursor)

on_follows : (s : ℕ) (f : DepositLine → DepositLine) (v : View) → ((w : DepositLine) → Follows w (f w)) → Follows v.line (on_line s f v).line
on_follows s f v k = go (v.line.socket == s)
  where
    go : (b : Bool) → Follows v.line (if b then with_line (f v.line) v else v).line
    go true = k v.line
    go false = λ e. (e, refl, refl, refl)

list_follows : (list : List Ready) (w : DepositLine) (v : View) → Follows w v.line → Follows w (fold listed v list).line
list_follows [] w v f = f
list_follows (Opened s ∷ list) w v f = list_follows list w v f
list_follows (Seems s ∷ list) w v f = list_follows list w (listed v (Seems s)) (λ e.
    let a = on_follows s woken v (λ x o. (o, refl, refl, refl)) e in
    let b = f a.0 in
    (b.0, a.1 ∙ b.1, a.2 ∙ b.2, a.3 ∙ b.3))

-- ---- the line after bytes that came

record Keeps (w m : DepositLine) : Type 0 where
  sock : m.socket ≡ w.socket
  opened : m.is_open ≡ w.is_open
  due : m.unsent ≡ w.unsent
  count : m.taken ≡ w.taken
  place : (at : ℕ) → w.cursor ≡ Some at → m.cursor ≡ Some at

keeps_refl : (w : DepositLine) → Keeps w w
keeps_refl w = record { sock = refl; opened = refl; due = refl; count = refl; place = λ at e. e }

keeps_then : (w m n : DepositLine) → Keeps w m → Keeps m n → Keeps w n
keeps_then w m n a b = record { sock = b.sock ∙ a.sock; opened = b.opened ∙ a.opened; due = b.due ∙ a.due; count = b.count ∙ a.count; place = λ at e. b.place at (a.place at e) }

want_keeps : (place : ℕ) (w : DepositLine) (o : Option ℕ) → w.cursor ≡ o → Keeps w (wanted place o w)
want_keeps place w None e = record { sock = refl; opened = refl; due = refl; count = refl; place = λ at h. absurd (let x : None ≡ Some at = sym e ∙ h in cc) }
want_keeps place w (Some at) e = record { sock = refl; opened = refl; due = refl; count = refl; place = λ at e. e }

frame_keeps : (w : DepositLine) (f : Frame) → Keeps w (heard_frame w f)
frame_keeps w (Hello id q pass next) = record { sock = refl; opened = refl; due = refl; count = refl; place = λ at e. e }
frame_keeps w (Turn f) = record { sock = refl; opened = refl; due = refl; count = refl; place = λ at e. e }
frame_keeps w (Want place) = want_keeps place w w.cursor refl

heard_keeps : (w : DepositLine) (f : Frame) → Keeps w (heard w f)
heard_keeps w f = go w.is_wrong
  where
    go : (b : Bool) → Keeps w (if b then w else heard_frame w f)
    go true = keeps_refl w
    go false = frame_keeps w f

fold_keeps : (fs : List Frame) (w : DepositLine) → Keeps w (fold heard w fs)
fold_keeps [] w = keeps_refl w
fold_keeps (f ∷ fs) w = keeps_then w (heard w f) (fold heard (heard w f) fs) (heard_keeps w f) (fold_keeps fs (heard w f))

doomed_keeps : (b : Bool) (w : DepositLine) → Keeps w (doomed_if b w)
doomed_keeps true w = record { sock = refl; opened = refl; due = refl; count = refl; place = λ at e. e }
doomed_keeps false w = keeps_refl w

fed_keeps : (bytes : List ℕ) (w : DepositLine) → Keeps w (fed bytes w)
fed_keeps bytes w =
    let g : Given = given_of w.reader bytes in
    let y : DepositLine = fold heard w g.frames in
    let k = keeps_then w y (doomed_if g.reader.bad y) (fold_keeps g.frames w) (doomed_keeps g.reader.bad y) in
    record { sock = k.sock; opened = k.opened; due = k.due; count = k.count; place = k.place }

pub fed_taken : (bytes : List ℕ) (w : DepositLine) → (fed bytes w).taken ≡ w.taken
fed_taken bytes w = (fed_keeps bytes w).count

pub record TookSo (w m : DepositLine) : Type 0 where
  pub sock : m.socket ≡ w.socket
  pub opened : m.is_open ≡ w.is_open
  pub due : m.unsent ≡ w.unsent
  pub place : (at : ℕ) → w.cursor ≡ Some at → m.cursor ≡ Some at

pub took_keeps : (bytes : List ℕ) (w : DepositLine) → TookSo w (took bytes w)
took_keeps bytes w =
    let k = fed_keeps bytes (record w { taken = w.taken + length bytes }) in
    record { sock = k.sock; opened = k.opened; due = k.due; place = k.place }

-- ---- item by item

shown_more : (items : List Item) (v : View) (item : Item) → view_after v (items ++ item ∷ []) ≡ after (view_after v items) item
shown_more [] v item = refl
shown_more (first ∷ items) v item = shown_more items (after v first) item

record Gives (log : List ℕ) (s : Setting) (items : List Item) (v : View) : Type 0 where
  shown : view_of s items ≡ v
  setting : v.setting ≡ s
  all : (n : ℕ) → BeginsHelloAndLog log s n items (given_in n items)
  fresh : (n : ℕ) → standing_in items n ≡ Fresh → given_in n items ≡ []
  used : v.line.is_open ≡ true → standing_in items v.line.socket ≡ Fresh → ⊥
  line : v.line.is_open ≡ true → LineGives log s items v.line

-- an item that gives nothing, and leaves the line as it is but for what is heard and read
still : (log : List ℕ) (s : Setting) (items : List Item) (v : View) (item : Item) → ((n : ℕ) → gave_at n item ≡ []) → (after v item).setting ≡ v.setting → Follows v.line (after v item).line →
    Gives log s items v → Gives log s (items ++ item ∷ []) (after v item)
still log s items v item none set follows g = record {
  shown = shown_more items (start s) item ∙ ap (λ (x : View). after x item) g.shown;
  setting = set ∙ g.setting;
  all = λ n. subst (λ (x : List ℕ). BeginsHelloAndLog log s n (items ++ item ∷ []) x) (sym (same n)) (so_on log s n items item (given_in n items) (g.all n));
  fresh = λ n e. same n ∙ g.fresh n (fresh_before n (standing_in items n) item (sym (standing-more items item n) ∙ e));
  used = λ o e.
      let f = follows o in
      g.used f.0 (ap (standing_in items) (sym f.1) ∙ fresh_before w.socket (standing_in items w.socket) item (sym (standing-more items item w.socket) ∙ e));
  line = λ o.
      let f = follows o in
      let old = of_on log s v.line.socket items item (given_in v.line.socket items) v.line.unsent v.line.cursor (g.line f.0) in
      subst (λ (x : List ℕ). GivesOf log s w.socket (items ++ item ∷ []) x w.unsent w.cursor) (sym (same w.socket))
      (subst (λ (k : ℕ). GivesOf log s k (items ++ item ∷ []) (given_in k items) w.unsent w.cursor) (sym f.1)
      (subst (λ (u : List ℕ). GivesOf log s v.line.socket (items ++ item ∷ []) (given_in v.line.socket items) u w.cursor) (sym f.2)
      (subst (λ (c : Option ℕ). GivesOf log s v.line.socket (items ++ item ∷ []) (given_in v.line.socket items) v.line.unsent c) (sym f.3) old)));
}
  where
    w : DepositLine
    w = (after v item).line

    same : (n : ℕ) → given_in n (items ++ item ∷ []) ≡ given_in n items
    same n = given-more n items item ∙ ap (λ (x : List ℕ). given_in n items ++ x) (none n) ∙ append-nil (given_in n items)

-- ---- settings

on_setting : (s : ℕ) (f : DepositLine → DepositLine) (v : View) → (on_line s f v).setting ≡ v.setting
on_setting s f v = go (v.line.socket == s)
  where
    go : (b : Bool) → (if b then with_line (f v.line) v else v).setting ≡ v.setting
    go true = refl
    go false = refl

list_setting : (list : List Ready) (v : View) → (fold listed v list).setting ≡ v.setting
list_setting [] v = refl
list_setting (Opened s ∷ list) v = list_setting list v
list_setting (Seems s ∷ list) v = list_setting list (listed v (Seems s)) ∙ on_setting s woken v

on_here : (s : ℕ) (f : DepositLine → DepositLine) (v : View) → (v.line.socket == s) ≡ true → on_line s f v ≡ with_line (f v.line) v
on_here s f v e = ap (λ (b : Bool). if b then with_line (f v.line) v else v) e

-- ---- bytes that came

took_here : (log : List ℕ) (s : Setting) (items : List Item) (v : View) (bytes : List ℕ) → Gives log s items v →
    Gives log s (items ++ Took v.line.socket bytes ∷ []) (after v (Took v.line.socket bytes))
took_here log s items v bytes g = record {
  shown = shown;
  setting = on_setting w.socket (took bytes) v ∙ g.setting;
  all = λ n. subst (λ (x : List ℕ). BeginsHelloAndLog log s n (items ++ item ∷ []) x) (sym (same n)) (so_on log s n items item (given_in n items) (g.all n));
  fresh = λ n e. same n ∙ g.fresh n (sym (standing-more items item n) ∙ e);
  used = λ o e. g.used (opened o) (ap (standing_in items) (sym socket) ∙ sym (standing-more items item (after v item).line.socket) ∙ e);
  line = λ o. subst (λ (x : DepositLine). LineGives log s (items ++ item ∷ []) x) (sym line)
      (subst (λ (k : ℕ). GivesOf log s k (items ++ item ∷ []) (given_in k (items ++ item ∷ [])) m.unsent m.cursor) (sym k.sock)
      (subst (λ (x : List ℕ). GivesOf log s w.socket (items ++ item ∷ []) x m.unsent m.cursor) (sym (same w.socket))
      (subst (λ (u : List ℕ). GivesOf log s w.socket (items ++ item ∷ []) (given_in w.socket items) u m.cursor) (sym k.due)
      (go w.cursor m.cursor refl refl (of_on log s w.socket items item (given_in w.socket items) w.unsent w.cursor (g.line (opened o)))))));
}
  where
    w : DepositLine
    w = v.line

    item : Item
    item = Took w.socket bytes

    m : DepositLine
    m = took bytes w

    k : TookSo w m
    k = took_keeps bytes w

    is : after v item ≡ with_line m v
    is = on_here w.socket (took bytes) v (eq-eqb w.socket w.socket refl)

    line : (after v item).line ≡ m
    line = ap (λ (x : View). x.line) is

    shown : view_of s (items ++ item ∷ []) ≡ after v item
    shown = shown_more items (start s) item ∙ ap (λ (x : View). after x item) g.shown

    socket : (after v item).line.socket ≡ w.socket
    socket = ap (λ (x : DepositLine). x.socket) line ∙ k.sock

    opened : (after v item).line.is_open ≡ true → w.is_open ≡ true
    opened o = sym (ap (λ (x : DepositLine). x.is_open) line ∙ k.opened) ∙ o

    same : (n : ℕ) → given_in n (items ++ item ∷ []) ≡ given_in n items
    same n = given-more n items item ∙ append-nil (given_in n items)

    go : (old new : Option ℕ) → w.cursor ≡ old → m.cursor ≡ new → GivesOf log s w.socket (items ++ item ∷ []) (given_in w.socket items) w.unsent old → GivesOf log s w.socket (items ++ item ∷ []) (given_in w.socket items) w.unsent new
    go None None a b h = h
    go None (Some place) a b h = record {
      place = place;
      part = [];
      wanted = record {
        before = items;
        piece = bytes;
        more = [];
        stands = refl;
        none = ap (λ (x : View). x.line.cursor) g.shown ∙ a;
        first = ap (λ (x : View). x.line.cursor) shown ∙ ap (λ (x : DepositLine). x.cursor) line ∙ b;
      };
      split = h ∙ sym (append-nil (spelling (hello s)));
      begins = refl;
      whole = inl refl;
    }
    go (Some at) None a b h = absurd (let x : None ≡ Some at = sym b ∙ k.place at a in cc)
    go (Some at) (Some more) a b h = let x : Some at ≡ Some more = sym (k.place at a) ∙ b in subst (λ (o : Option ℕ). GivesOf log s w.socket (items ++ item ∷ []) (given_in w.socket items) w.unsent o) x h

-- ---- bytes that were given

empty_is : (xs : List ℕ) → is_empty xs ≡ true → xs ≡ []
empty_is [] e = refl
empty_is (x ∷ xs) e = absurd (false≢true e)

full_is : (xs : List ℕ) → is_empty xs ≡ false → xs ≡ [] → ⊥
full_is [] e n = false≢true (sym e)
full_is (x ∷ xs) e n = cc

-- what is given of the log
gave_log : (log : List ℕ) (s : Setting) (socket : ℕ) (items : List Item) (given unsent bytes : List ℕ) (o : Option ℕ) → unsent ≡ [] → is_front bytes (from log o) ≡ true → GivesOf log s socket items given unsent o →
    GivesOf log s socket items (given ++ bytes) unsent (option_map (λ at. at + length bytes) o)
gave_log log s socket items given unsent bytes None n f g = absurd (front_none bytes [] refl f)
gave_log log s socket items given unsent bytes (Some at) n f g = record {
  place = g.place;
  part = g.part ++ bytes;
  wanted = g.wanted;
  split =
      ap (λ (x : List ℕ). (given ++ bytes) ++ x) n ∙ append-nil (given ++ bytes)
      ∙ ap (λ (x : List ℕ). x ++ bytes) (sym (append-nil given) ∙ ap (λ (x : List ℕ). given ++ x) (sym n) ∙ g.split)
      ∙ append_assoc (spelling (hello s)) g.part bytes;
  begins =
      append_assoc g.part bytes (drop (at + length bytes) log)
      ∙ ap (λ (x : List ℕ). g.part ++ x) (ap (λ (x : List ℕ). bytes ++ x) (sym (drop-drop (length bytes) at log)) ∙ front_is bytes (drop at log) f)
      ∙ g.begins;
  whole = inr n;
}

-- what is given of the HELLO
gave_hello : (log : List ℕ) (s : Setting) (socket : ℕ) (items : List Item) (given unsent bytes : List ℕ) (o : Option ℕ) → (unsent ≡ [] → ⊥) → is_front bytes unsent ≡ true → GivesOf log s socket items given unsent o →
    GivesOf log s socket items (given ++ bytes) (drop (length bytes) unsent) o
gave_hello log s socket items given unsent bytes None n f g =
    append_assoc given bytes (drop (length bytes) unsent) ∙ ap (λ (x : List ℕ). given ++ x) (front_is bytes unsent f) ∙ g
gave_hello log s socket items given unsent bytes (Some at) n f g = record {
  place = g.place;
  part = g.part;
  wanted = g.wanted;
  split = append_assoc given bytes (drop (length bytes) unsent) ∙ ap (λ (x : List ℕ). given ++ x) (front_is bytes unsent f) ∙ g.split;
  begins = g.begins;
  whole = none g.whole;
}
  where
    none : (g.part ≡ []) ⊎ (unsent ≡ []) → (g.part ≡ []) ⊎ (drop (length bytes) unsent ≡ [])
    none (inl e) = inl e
    none (inr e) = absurd (n e)

gave_line : (log : List ℕ) (s : Setting) (items : List Item) (w : DepositLine) (given bytes : List ℕ) → is_front bytes (due log w) ≡ true → GivesOf log s w.socket items given w.unsent w.cursor →
    GivesOf log s w.socket items (given ++ bytes) (gave (length bytes) w).unsent (gave (length bytes) w).cursor
gave_line log s items w given bytes f g = go (is_empty w.unsent) refl
  where
    made : Bool → DepositLine
    made b = if b then record w { cursor = option_map (λ at. at + length bytes) w.cursor } else record w { unsent = drop (length bytes) w.unsent }

    go : (b : Bool) → is_empty w.unsent ≡ b → GivesOf log s w.socket items (given ++ bytes) (made (is_empty w.unsent)).unsent (made (is_empty w.unsent)).cursor
    go true e =
        let front : is_front bytes (from log w.cursor) ≡ true = ap (λ (b : Bool). is_front bytes (if b then from log w.cursor else w.unsent)) (sym e) ∙ f in
        subst (λ (b : Bool). GivesOf log s w.socket items (given ++ bytes) (made b).unsent (made b).cursor) (sym e)
        (gave_log log s w.socket items given w.unsent bytes w.cursor (empty_is w.unsent e) front g)
    go false e =
        let front : is_front bytes w.unsent ≡ true = ap (λ (b : Bool). is_front bytes (if b then from log w.cursor else w.unsent)) (sym e) ∙ f in
        subst (λ (b : Bool). GivesOf log s w.socket items (given ++ bytes) (made b).unsent (made b).cursor) (sym e)
        (gave_hello log s w.socket items given w.unsent bytes w.cursor (full_is w.unsent e) front g)

gave_keeps : (count : ℕ) (w : DepositLine) → ((gave count w).socket ≡ w.socket) × ((gave count w).is_open ≡ w.is_open)
gave_keeps count w = go (is_empty w.unsent)
  where
    go : (b : Bool) → ((if b then record w { cursor = option_map (λ at. at + count) w.cursor } else record w { unsent = drop count w.unsent }).socket ≡ w.socket)
        × ((if b then record w { cursor = option_map (λ at. at + count) w.cursor } else record w { unsent = drop count w.unsent }).is_open ≡ w.is_open)
    go true = (refl, refl)
    go false = (refl, refl)

gave_here : (log : List ℕ) (s : Setting) (items : List Item) (v : View) (bytes : List ℕ) → v.line.is_open ≡ true → is_front bytes (due log v.line) ≡ true → Gives log s items v →
    Gives log s (items ++ Gave v.line.socket bytes ∷ []) (after v (Gave v.line.socket bytes))
gave_here log s items v bytes open_is f g = record {
  shown = shown_more items (start s) item ∙ ap (λ (x : View). after x item) g.shown;
  setting = on_setting w.socket (gave (length bytes)) v ∙ g.setting;
  all = λ n. subst (λ (x : List ℕ). BeginsHelloAndLog log s n (items ++ item ∷ []) x) (sym (now n)) (so n (w.socket == n) refl);
  fresh = λ n e. now n ∙ ap (λ (x : List ℕ). x ++ (if w.socket == n then bytes else [])) (g.fresh n (sym (standing-more items item n) ∙ e)) ∙ none n e (w.socket == n) refl;
  used = λ o e. g.used open_is (ap (standing_in items) (sym socket) ∙ sym (standing-more items item (after v item).line.socket) ∙ e);
  line = λ o. subst (λ (x : DepositLine). LineGives log s (items ++ item ∷ []) x) (sym line)
      (subst (λ (k : ℕ). GivesOf log s k (items ++ item ∷ []) (given_in k (items ++ item ∷ [])) m.unsent m.cursor) (sym kept.0)
      (subst (λ (x : List ℕ). GivesOf log s w.socket (items ++ item ∷ []) x m.unsent m.cursor) (sym here) gives));
}
  where
    w : DepositLine
    w = v.line

    item : Item
    item = Gave w.socket bytes

    m : DepositLine
    m = gave (length bytes) w

    kept : (m.socket ≡ w.socket) × (m.is_open ≡ w.is_open)
    kept = gave_keeps (length bytes) w

    line : (after v item).line ≡ m
    line = ap (λ (x : View). x.line) (on_here w.socket (gave (length bytes)) v (eq-eqb w.socket w.socket refl))

    socket : (after v item).line.socket ≡ w.socket
    socket = ap (λ (x : DepositLine). x.socket) line ∙ kept.0

    now : (n : ℕ) → given_in n (items ++ item ∷ []) ≡ given_in n items ++ (if w.socket == n then bytes else [])
    now n = given-more n items item

    here : given_in w.socket (items ++ item ∷ []) ≡ given_in w.socket items ++ bytes
    here = now w.socket ∙ ap (λ (b : Bool). given_in w.socket items ++ (if b then bytes else [])) (eq-eqb w.socket w.socket refl)

    gives : GivesOf log s w.socket (items ++ item ∷ []) (given_in w.socket items ++ bytes) m.unsent m.cursor
    gives = gave_line log s (items ++ item ∷ []) w (given_in w.socket items) bytes f (of_on log s w.socket items item (given_in w.socket items) w.unsent w.cursor (g.line open_is))

    so : (n : ℕ) (b : Bool) → (w.socket == n) ≡ b → BeginsHelloAndLog log s n (items ++ item ∷ []) (given_in n items ++ (if w.socket == n then bytes else []))
    so n true e =
        let same : w.socket ≡ n = eqb-true w.socket n e in
        subst (λ (b : Bool). BeginsHelloAndLog log s n (items ++ item ∷ []) (given_in n items ++ (if b then bytes else []))) (sym e)
        (subst (λ (k : ℕ). BeginsHelloAndLog log s k (items ++ item ∷ []) (given_in k items ++ bytes)) same (gives_so log s w.socket (items ++ item ∷ []) (given_in w.socket items ++ bytes) m.unsent m.cursor gives))
    so n false e =
        subst (λ (b : Bool). BeginsHelloAndLog log s n (items ++ item ∷ []) (given_in n items ++ (if b then bytes else []))) (sym e)
        (subst (λ (x : List ℕ). BeginsHelloAndLog log s n (items ++ item ∷ []) x) (sym (append-nil (given_in n items))) (so_on log s n items item (given_in n items) (g.all n)))

    none : (n : ℕ) → standing_in (items ++ item ∷ []) n ≡ Fresh → (b : Bool) → (w.socket == n) ≡ b → [] ++ (if w.socket == n then bytes else []) ≡ []
    none n e true h = absurd (g.used open_is (ap (standing_in items) (eqb-true w.socket n h) ∙ sym (standing-more items item n) ∙ e))
    none n e false h = ap (λ (b : Bool). if b then bytes else []) h

-- ---- a socket that was dialled

dialled_gives : (log : List ℕ) (s : Setting) (items : List Item) (v : View) (k q : ℕ) (addr : Addr) → standing_in items k ≡ Fresh → Gives log s items v →
    Gives log s (items ++ Dialled k q addr ∷ []) (after v (Dialled k q addr))
dialled_gives log s items v k q addr new g = record {
  shown = shown_more items (start s) item ∙ ap (λ (x : View). after x item) g.shown;
  setting = g.setting;
  all = λ n. subst (λ (x : List ℕ). BeginsHelloAndLog log s n (items ++ item ∷ []) x) (sym (same n)) (so_on log s n items item (given_in n items) (g.all n));
  fresh = λ n e. same n ∙ g.fresh n (fresh_before n (standing_in items n) item (sym (standing-more items item n) ∙ e));
  used = λ o e. absurd (let x : Open ≡ Fresh = sym opened ∙ e in cc);
  line = λ o. ap (λ (x : List ℕ). x ++ spelling (hello v.setting)) (same k ∙ g.fresh k new) ∙ ap (λ (x : Setting). spelling (hello x)) g.setting;
}
  where
    item : Item
    item = Dialled k q addr

    same : (n : ℕ) → given_in n (items ++ item ∷ []) ≡ given_in n items
    same n = given-more n items item ∙ append-nil (given_in n items)

    opened : standing_in (items ++ item ∷ []) k ≡ Open
    opened = standing-more items item k ∙ ap (λ (b : Bool). if b then Open else standing_in items k) (eq-eqb k k refl)

-- ---- all items

its_open : (k : ℕ) (v : View) → is_its k v ≡ true → (v.line.is_open ≡ true) × (v.line.socket ≡ k)
its_open k v e = let p = and_parts _ _ e in ((and_parts _ _ p.0).1, eqb-true v.line.socket k p.1)

gives_on : (log : List ℕ) (s : Setting) (items : List Item) (v : View) (item : Item) → OpensNew items item → is_allowed log v item ≡ true → Gives log s items v → Gives log s (items ++ item ∷ []) (after v item)
gives_on log s items v (LogBegun name) o a g = absurd (false≢true a)
gives_on log s items v (Listening addr) o a g = absurd (false≢true a)
gives_on log s items v (Dialled k q addr) o a g = dialled_gives log s items v k q addr o g
gives_on log s items v (Polled list) o a g = still log s items v (Polled list) (λ n. refl) (list_setting list (rested v)) (list_follows list v.line (rested v) (λ e. (e, refl, refl, refl))) g
gives_on log s items v (Took k bytes) o a g =
    let its = its_open k v (and_parts _ _ (and_parts _ _ (and_parts _ _ a).0).0).0 in
    subst (λ (n : ℕ). Gives log s (items ++ Took n bytes ∷ []) (after v (Took n bytes))) its.1 (took_here log s items v bytes g)
gives_on log s items v (Gave k bytes) o a g =
    let p = and_parts (may_write log v k) (is_front bytes (due log v.line)) a in
    let its = its_open k v (and_parts (is_its k v) (wants_write log v.line) p.0).0 in
    subst (λ (n : ℕ). Gives log s (items ++ Gave n bytes ∷ []) (after v (Gave n bytes))) its.1 (gave_here log s items v bytes its.0 p.1 g)
gives_on log s items v (ReadNotYet k) o a g = still log s items v (ReadNotYet k) (λ n. refl) (on_setting k quieted v) (on_follows k quieted v (λ w e. (e, refl, refl, refl))) g
gives_on log s items v (WriteNotYet k) o a g = still log s items v (WriteNotYet k) (λ n. refl) (on_setting k blocked v) (on_follows k blocked v (λ w e. (e, refl, refl, refl))) g
gives_on log s items v (Ended k) o a g = still log s items v (Ended k) (λ n. refl) (on_setting k closed v) (on_follows k closed v (λ w e. absurd (false≢true e))) g
gives_on log s items v (Shut k) o a g = still log s items v (Shut k) (λ n. refl) (on_setting k closed v) (on_follows k closed v (λ w e. absurd (false≢true e))) g
gives_on log s items v (Kept bytes) o a g = absurd (false≢true a)
gives_on log s items v Synced o a g = absurd (false≢true a)
gives_on log s items v (Failed (ListenCall addr)) o a g = absurd (false≢true a)
gives_on log s items v (Failed (LogCall name)) o a g = absurd (false≢true a)
gives_on log s items v (Failed (DialCall q addr)) o a g = still log s items v (Failed (DialCall q addr)) (λ n. refl) refl (λ e. (e, refl, refl, refl)) g
gives_on log s items v (Failed PollCall) o a g = still log s items v (Failed PollCall) (λ n. refl) refl (λ e. (e, refl, refl, refl)) g
gives_on log s items v (Failed (ReadCall k)) o a g = still log s items v (Failed (ReadCall k)) (λ n. refl) (on_setting k closed v) (on_follows k closed v (λ w e. absurd (false≢true e))) g
gives_on log s items v (Failed (WriteCall k)) o a g = still log s items v (Failed (WriteCall k)) (λ n. refl) (on_setting k closed v) (on_follows k closed v (λ w e. absurd (false≢true e))) g
gives_on log s items v (Failed (KeepCall bytes)) o a g = absurd (false≢true a)
gives_on log s items v (Failed SyncCall) o a g = absurd (false≢true a)

all_gives : (log : List ℕ) (s : Setting) (before items : List Item) (v : View) → Gives log s before v → AreTold log v before items → (n : ℕ) → BeginsHelloAndLog log s n (before ++ items) (given_in n (before ++ items))
all_gives log s before [] v g a n = subst (λ (xs : List Item). BeginsHelloAndLog log s n xs (given_in n xs)) (sym (append-nil before)) (g.all n)
all_gives log s before (item ∷ items) v g a n =
    subst (λ (xs : List Item). BeginsHelloAndLog log s n xs (given_in n xs)) (append_assoc before (item ∷ []) items)
    (all_gives log s (before ++ item ∷ []) items (after v item) (gives_on log s before v item a.0 a.1 g) a.2 n)

pub given_is_hello_and_log : GivenIsHelloAndLog
given_is_hello_and_log log s items socket a =
    all_gives log s [] items (start s) (record {
      shown = refl;
      setting = refl;
      all = λ n. inl (spelling (hello s), refl);
      fresh = λ n e. refl;
      used = λ o e. false≢true o;
      line = λ o. absurd (false≢true o);
    }) a socket
