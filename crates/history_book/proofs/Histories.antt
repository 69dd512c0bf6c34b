-- What one more item of the history makes of what stands in memory.
use Rattle.std.specs.List.{count_by, fold, list_any}
use Rattle.std.proofs.Common.{◌≡◌, ◌≢◌, ◌<◌, ◌^◌, ℕ, ◌+◌, ◌-◌, ◌==◌, min, replicate, length-set, Bool, true, false, ◌||◌, List, [], ◌∷◌, ◌++◌, length, refl, sym, ap, ◌∙◌, arith, if◌then◌else◌, append-nil, append_assoc, length-append, get_or, slice_set, bytes_eq}
use Rattle.std.proofs.lemmas.Grind.{fold-append, flat_map-append}
use Rattle.std.proofs.lemmas.List.{get_or-set_same, get_or-set_other, get_or-replicate, length-replicate}
use Rattle.std.proofs.lemmas.List.Folds.{list_any-append}
use Rattle.socket_station.proofs.Histories.{count-more, kept-more}
use Rattle.std.proofs.lemmas.Bool.Decides.{nat_tests}
use Rattle.socket_station.specs.declared.answers.Addr.{Addr}
use Rattle.socket_station.specs.declared.answers.Dial.{Dial}
use Rattle.socket_station.specs.declared.answers.Dial.TheVariants.{Socket, Failed as DialFailed}
use Rattle.socket_station.specs.Items.{Item, dial_item}
use Rattle.socket_station.specs.Items as I
use Rattle.socket_station.specs.Moved.{gave_at, given_in, kept_at}
use Rattle.history_book.specs.declared.dials.Dials.{Dials}
use Rattle.history_book.specs.declared.journal.SyncMark.{SyncMark}
use Rattle.history_book.specs.declared.store.What.TheVariants.{Given}
use Rattle.history_book.specs.Books.{dialled_by}
use Rattle.history_book.specs.Dials.{no_dials, dialled_once, dials_after}
use Rattle.history_book.specs.Journals.{HeldJournal, Marking, marking_after, marking_in}
use Rattle.history_book.specs.Stores.{HeldPart, with_part, parts_after, parts_in, given_part, given_parts, names_log, begins, is_begun}
use Rattle.history_book.specs.declared.tally.Tally.{Tally}
use Rattle.history_book.specs.Insides.{IsSeen}
use Rattle.history_book.specs.Tallies.{no_tally, called, is_call, is_poll}

-- the bytes given are those of the byte strings
given-after : (s : ℕ) (parts : List HeldPart) (item : Item) → given_parts s (parts_after parts item) ≡ given_parts s parts ++ gave_at s item
given-after s parts (I.LogBegun name) = flat_map-append (given_part s) parts _
given-after s parts (I.Gave t bytes) = flat_map-append (given_part s) parts _ ∙ ap (λ r. given_parts s parts ++ r) (append-nil (if t == s then bytes else []))
given-after s parts (I.Listening a) = sym (append-nil (given_parts s parts))
given-after s parts (I.Dialled a b c) = sym (append-nil (given_parts s parts))
given-after s parts (I.Polled a) = sym (append-nil (given_parts s parts))
given-after s parts (I.Took a b) = sym (append-nil (given_parts s parts))
given-after s parts (I.ReadNotYet a) = sym (append-nil (given_parts s parts))
given-after s parts (I.WriteNotYet a) = sym (append-nil (given_parts s parts))
given-after s parts (I.Ended a) = sym (append-nil (given_parts s parts))
given-after s parts (I.Failed a) = sym (append-nil (given_parts s parts))
given-after s parts (I.Shut a) = sym (append-nil (given_parts s parts))
given-after s parts (I.Kept a) = sym (append-nil (given_parts s parts))
given-after s parts I.Synced = sym (append-nil (given_parts s parts))

given-from : (s : ℕ) (parts : List HeldPart) (items : List Item) → given_parts s (fold parts_after parts items) ≡ given_parts s parts ++ given_in s items
given-from s parts [] = sym (append-nil (given_parts s parts))
given-from s parts (item ∷ items) =
    given-from s (parts_after parts item) items
    ∙ (ap (λ r. r ++ given_in s items) (given-after s parts item) ∙ append_assoc (given_parts s parts) (gave_at s item) (given_in s items))

pub given-parts : (s : ℕ) (items : List Item) → given_parts s (parts_in items) ≡ given_in s items
given-parts s items = given-from s [] items

-- a log was begun where its name stands among them
or-false : (b : Bool) → b ≡ (b || false)
or-false true = refl
or-false false = refl

begun-after : (name : List ℕ) (parts : List HeldPart) (item : Item) → list_any (names_log name) (parts_after parts item) ≡ (list_any (names_log name) parts || begins name item)
begun-after name parts (I.LogBegun begun) = list_any-append (names_log name) parts _ ∙ ap (λ r. list_any (names_log name) parts || r) (sym (or-false (bytes_eq begun name)))
begun-after name parts (I.Gave t bytes) = list_any-append (names_log name) parts _
begun-after name parts (I.Listening a) = or-false (list_any (names_log name) parts)
begun-after name parts (I.Dialled a b c) = or-false (list_any (names_log name) parts)
begun-after name parts (I.Polled a) = or-false (list_any (names_log name) parts)
begun-after name parts (I.Took a b) = or-false (list_any (names_log name) parts)
begun-after name parts (I.ReadNotYet a) = or-false (list_any (names_log name) parts)
begun-after name parts (I.WriteNotYet a) = or-false (list_any (names_log name) parts)
begun-after name parts (I.Ended a) = or-false (list_any (names_log name) parts)
begun-after name parts (I.Failed a) = or-false (list_any (names_log name) parts)
begun-after name parts (I.Shut a) = or-false (list_any (names_log name) parts)
begun-after name parts (I.Kept a) = or-false (list_any (names_log name) parts)
begun-after name parts I.Synced = or-false (list_any (names_log name) parts)

or-assoc : (a b c : Bool) → ((a || b) || c) ≡ (a || (b || c))
or-assoc true b c = refl
or-assoc false b c = refl

begun-from : (name : List ℕ) (parts : List HeldPart) (items : List Item) → list_any (names_log name) (fold parts_after parts items) ≡ (list_any (names_log name) parts || is_begun name items)
begun-from name parts [] = or-false (list_any (names_log name) parts)
begun-from name parts (item ∷ items) =
    begun-from name (parts_after parts item) items
    ∙ (ap (λ r. r || is_begun name items) (begun-after name parts item) ∙ or-assoc (list_any (names_log name) parts) (begins name item) (is_begun name items))

pub begun-parts : (name : List ℕ) (items : List Item) → list_any (names_log name) (parts_in items) ≡ is_begun name items
begun-parts name items = begun-from name [] items

-- the dials for each player after a dial
after-dial : (q player : ℕ) (dial : Dial) (addr : Addr) (d : Dials) → dials_after q d (dial_item dial player addr) ≡ (if player == q then dialled_once (dialled_by dial) d else d)
after-dial q player (Socket s) addr d = refl
after-dial q player DialFailed addr d = refl

set-at : (b : Bool) (q player : ℕ) (table : List Dials) (x : Dials) → (player == q) ≡ b → player < length table → get_or (slice_set table player x) q no_dials ≡ (if b then x else get_or table q no_dials)
set-at true q player table x e h =
    let i : q ≡ player = grind (arith, nat_tests) in
    ap (λ k. get_or (slice_set table player x) k no_dials) i ∙ get_or-set_same table player x no_dials h
set-at false q player table x e h =
    let n : q ≢ player = grind (arith, nat_tests, e) in
    get_or-set_other table player q x no_dials n

-- what stands in memory tells a history with one item more
abbrev pub marking-of : Tally → HeldJournal → Marking
marking-of t j = record { told = t.told; kept = length j.kept; marks = j.marks }

marking-is : (history : List Item) (t : Tally) (table : List Dials) (parts : List HeldPart) (j : HeldJournal) → IsSeen history t table parts j → marking-of t j ≡ marking_in history
marking-is history t table parts j s =
    ap (λ (k : ℕ). record { told = k; kept = length j.kept; marks = j.marks }) s.marks_told
    ∙ (ap (λ (k : ℕ). record { told = (marking_in history).told; kept = k; marks = j.marks }) s.marks_kept
    ∙ ap (λ (ms : List SyncMark). record { told = (marking_in history).told; kept = (marking_in history).kept; marks = ms }) s.marks)

pub seen-more : (history : List Item) (t : Tally) (table new : List Dials) (parts more : List HeldPart) (j k : HeldJournal) (item : Item) → IsSeen history t table parts j
    → is_call item ≡ true → is_poll item ≡ false → length new ≡ length table → ((q : ℕ) → q < 256 → get_or new q no_dials ≡ dials_after q (get_or table q no_dials) item)
    → more ≡ parts_after parts item → k.kept ≡ j.kept ++ kept_at item → marking-of (called t) k ≡ marking_after (marking-of t j) item
    → IsSeen (history ++ item ∷ []) (called t) new more k
seen-more history t table new parts more j k item s call poll size dials part kept mark =
    let c = count-more is_call history item ∙ ap (λ (b : Bool). count_by is_call history + (if b then 1 else 0)) call in
    let p : count_by is_poll (history ++ item ∷ []) ≡ count_by is_poll history = count-more is_poll history item ∙ (ap (λ (b : Bool). count_by is_poll history + (if b then 1 else 0)) poll ∙ omega arith) in
    let n = length-append history (item ∷ []) in
    let sc = s.calls in
    let st = s.told in
    let m : marking-of (called t) k ≡ marking_in (history ++ item ∷ []) =
    mark ∙ (ap (λ (x : Marking). marking_after x item) (marking-is history t table parts j s) ∙ sym (fold-append marking_after (record { told = 0; kept = 0; marks = [] }) history (item ∷ []))) in
    record {
      calls = omega (arith, c, sc);
      told = omega (arith, n, st);
      polls = s.polls ∙ ap (λ (x : ℕ). min x (2 ^ 32 - 1)) (sym p);
      players = size ∙ s.players;
      dials = λ q h. dials q h ∙ (ap (λ (d : Dials). dials_after q d item) (s.dials q h) ∙ sym (fold-append (dials_after q) no_dials history (item ∷ [])));
      parts = part ∙ (ap (λ (x : List HeldPart). parts_after x item) s.parts ∙ sym (fold-append parts_after [] history (item ∷ [])));
      kept = kept ∙ (ap (λ (x : List ℕ). x ++ kept_at item) s.kept ∙ sym (kept-more history item));
      marks = ap (λ (x : Marking). x.marks) m;
      marks_told = ap (λ (x : Marking). x.told) m;
      marks_kept = ap (λ (x : Marking). x.kept) m;
    }

-- the same after a dial
is-call : (dial : Dial) (player : ℕ) (addr : Addr) → is_call (dial_item dial player addr) ≡ true
is-call (Socket s) player addr = refl
is-call DialFailed player addr = refl

is-no-poll : (dial : Dial) (player : ℕ) (addr : Addr) → is_poll (dial_item dial player addr) ≡ false
is-no-poll (Socket s) player addr = refl
is-no-poll DialFailed player addr = refl

no-part : (dial : Dial) (player : ℕ) (addr : Addr) (parts : List HeldPart) → parts ≡ parts_after parts (dial_item dial player addr)
no-part (Socket s) player addr parts = refl
no-part DialFailed player addr parts = refl

nothing-kept : (dial : Dial) (player : ℕ) (addr : Addr) → kept_at (dial_item dial player addr) ≡ []
nothing-kept (Socket s) player addr = refl
nothing-kept DialFailed player addr = refl

no-mark : (dial : Dial) (player : ℕ) (addr : Addr) (t : Tally) (j : HeldJournal) → marking-of (called t) j ≡ marking_after (marking-of t j) (dial_item dial player addr)
no-mark (Socket s) player addr t j = refl
no-mark DialFailed player addr t j = refl

pub seen-dial : (history : List Item) (t : Tally) (table : List Dials) (parts : List HeldPart) (j : HeldJournal) (player : ℕ) (dial : Dial) (addr : Addr) → player < 256 → IsSeen history t table parts j
    → IsSeen (history ++ dial_item dial player addr ∷ []) (called t) (slice_set table player (dialled_once (dialled_by dial) (get_or table player no_dials))) parts j
seen-dial history t table parts j player dial addr h s =
    let n = s.players in
    seen-more history t table (slice_set table player (dialled_once (dialled_by dial) (get_or table player no_dials))) parts parts j j (dial_item dial player addr) s
    (is-call dial player addr) (is-no-poll dial player addr) (length-set {A = Dials} table player _)
    (λ q l. set-at (player == q) q player table (dialled_once (dialled_by dial) (get_or table player no_dials)) refl (omega (arith, h, n)) ∙ (by-test q (player == q) refl ∙ sym (after-dial q player dial addr (get_or table q no_dials))))
    (no-part dial player addr parts) (sym (ap (λ (x : List ℕ). j.kept ++ x) (nothing-kept dial player addr) ∙ append-nil j.kept)) (no-mark dial player addr t j)
  where
    by-test : (q : ℕ) (b : Bool) → (player == q) ≡ b → (if b then dialled_once (dialled_by dial) (get_or table player no_dials) else get_or table q no_dials) ≡ (if b then dialled_once (dialled_by dial) (get_or table q no_dials) else get_or table q no_dials)
    by-test q true e = let i : player ≡ q = grind (arith, nat_tests) in ap (λ (k : ℕ). dialled_once (dialled_by dial) (get_or table k no_dials)) i
    by-test q false e = refl

-- the same after a write that gave bytes
pub seen-gave : (history : List Item) (t : Tally) (table : List Dials) (parts : List HeldPart) (j : HeldJournal) (s : ℕ) (bytes : List ℕ) → IsSeen history t table parts j
    → IsSeen (history ++ I.Gave s bytes ∷ []) (called t) table (with_part (Given s) bytes parts) j
seen-gave history t table parts j s bytes h =
    seen-more history t table table parts (with_part (Given s) bytes parts) j j (I.Gave s bytes) h refl refl refl (λ q l. refl) refl (sym (append-nil j.kept)) refl

-- nothing was told
pub seen-none : (table : List Dials) (parts : List HeldPart) (j : HeldJournal) → table ≡ replicate 256 no_dials → parts ≡ [] → j.kept ≡ [] → j.marks ≡ [] → IsSeen [] no_tally table parts j
seen-none table parts j e p k m =
    record {
      calls = refl;
      told = refl;
      polls = refl;
      players = ap length e ∙ length-replicate 256 no_dials;
      dials = λ q h. ap (λ (ds : List Dials). get_or ds q no_dials) e ∙ get_or-replicate 256 q no_dials no_dials h;
      parts = p;
      kept = k;
      marks = m;
      marks_told = refl;
      marks_kept = ap length k;
    }
