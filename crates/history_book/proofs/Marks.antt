-- How the syncs of a log stand among its bytes, and what they say of a history.
use Rattle.std.proofs.Common.{◌≡◌, ℕ, ◌+◌, ◌-◌, ◌^◌, ◌≤◌, ◌<◌, min, Bool, true, false, nat_le, List, [], ◌∷◌, ◌++◌, length, take, arith, if◌then◌else◌, refl, sym, ap, ◌∙◌, zero, suc, append-nil, append_assoc, length-append}
use Rattle.std.specs.List.{fold}
use Rattle.std.proofs.lemmas.Bool.Decides.{nat_tests}
use Rattle.std.proofs.lemmas.Grind.{fold-append}
use Rattle.std.proofs.lemmas.List.{take-append-le}
use Rattle.std.proofs.Math.Seq.{take-length}
use Rattle.plain_lemmas.proofs.Each.{each_kept, each_push}
use Rattle.socket_station.specs.Items.{Item}
use Rattle.socket_station.specs.Items as I
use Rattle.socket_station.specs.Moved.{Log, log_after, kept_in, kept_at, synced_in}
use Rattle.history_book.specs.declared.journal.SyncMark.{SyncMark}
use Rattle.history_book.specs.Journals.{AreMarks, Marking, marking_after, marking_in, mark_at, synced_at, with_mark}

pub AreMarks-more : (n m : ℕ) (marks : List SyncMark) → AreMarks n marks → n ≤ m → AreMarks m marks
AreMarks-more n m marks a h = each_kept (λ k. k.kept ≤ n) (λ k. k.kept ≤ m) marks (λ k lt. omega (arith, lt)) a

-- no more was synced than was kept
synced-within : (n items until : ℕ) (marks : List SyncMark) → until ≤ n → AreMarks n marks → fold (mark_at items) until marks ≤ n
synced-within n items until [] h a = h
synced-within n items until (m ∷ marks) h a = synced-within n items (mark_at items until m) marks (by-test (nat_le m.items items)) a.1
  where
    by-test : (b : Bool) → (if b then m.kept else until) ≤ n
    by-test true = a.0
    by-test false = h

pub synced-inside : (n items : ℕ) (marks : List SyncMark) → AreMarks n marks → synced_at items marks ≤ n
synced-inside n items marks a = synced-within n items 0 marks (omega arith) a

-- the log of a history as bytes kept, and its front as bytes synced
kept-after : (log : Log) (item : Item) → (log_after log item).kept ≡ log.kept ++ kept_at item
kept-after log (I.Kept bytes) = refl
kept-after log I.Synced = sym (append-nil log.kept)
kept-after log (I.Listening a) = sym (append-nil log.kept)
kept-after log (I.LogBegun a) = sym (append-nil log.kept)
kept-after log (I.Dialled a b c) = sym (append-nil log.kept)
kept-after log (I.Polled a) = sym (append-nil log.kept)
kept-after log (I.Took a b) = sym (append-nil log.kept)
kept-after log (I.Gave a b) = sym (append-nil log.kept)
kept-after log (I.ReadNotYet a) = sym (append-nil log.kept)
kept-after log (I.WriteNotYet a) = sym (append-nil log.kept)
kept-after log (I.Ended a) = sym (append-nil log.kept)
kept-after log (I.Failed a) = sym (append-nil log.kept)
kept-after log (I.Shut a) = sym (append-nil log.kept)

kept-from : (log : Log) (items : List Item) → (fold log_after log items).kept ≡ log.kept ++ kept_in items
kept-from log [] = sym (append-nil log.kept)
kept-from log (item ∷ items) =
    kept-from (log_after log item) items ∙ (ap (λ r. r ++ kept_in items) (kept-after log item) ∙ append_assoc log.kept (kept_at item) (kept_in items))

-- where a log and the syncs so far agree: so many items were told, and the last sync among them is the last of the log
pub record Agrees (k : ℕ) (log : Log) (m : Marking) : Type 0 where
  pub told : m.told ≤ k
  pub kept : m.kept ≡ length log.kept
  pub synced : log.synced ≡ take (synced_at k m.marks) log.kept
  pub within : AreMarks m.kept m.marks

take-more : (n : ℕ) (xs ys : List ℕ) → n ≤ length xs → take n (xs ++ ys) ≡ take n xs
take-more n xs ys h = take-append-le n xs ys h

last-mark : (k items kept : ℕ) (marks : List SyncMark) → synced_at k (with_mark items kept marks) ≡ (if nat_le items k then kept else synced_at k marks)
last-mark k items kept marks = fold-append (mark_at k) 0 marks _

within-later : (k items kept : ℕ) (marks : List SyncMark) → items ≤ k → synced_at k (with_mark items kept marks) ≡ kept
within-later k items kept marks h = last-mark k items kept marks ∙ (let t : nat_le items k ≡ true = grind (arith, nat_tests) in rw t refl)

beyond-later : (k items kept : ℕ) (marks : List SyncMark) → k < items → synced_at k (with_mark items kept marks) ≡ synced_at k marks
beyond-later k items kept marks h = last-mark k items kept marks ∙ (let t : nat_le items k ≡ false = grind (arith, nat_tests) in rw t refl)

-- they agree behind one more item among the first so many
plain-agrees : (k : ℕ) (log : Log) (m : Marking) → Agrees k log m → m.told + 1 ≤ k → Agrees k log (record { told = min (m.told + 1) (2 ^ 64 - 1); kept = m.kept; marks = m.marks })
plain-agrees k log m a h = record { told = omega (arith, h); kept = a.kept; synced = a.synced; within = a.within }

agrees-after : (k : ℕ) (log : Log) (m : Marking) (item : Item) → Agrees k log m → m.told + 1 ≤ k → Agrees k (log_after log item) (marking_after m item)
agrees-after k log m (I.Kept bytes) a h =
    let n = length-append log.kept bytes in
    let e = a.kept in
    let s = synced-inside m.kept k m.marks a.within in
    record {
      told = omega (arith, h);
      kept = omega (arith, n, e);
      synced = a.synced ∙ sym (take-more (synced_at k m.marks) log.kept bytes (omega (arith, s, e)));
      within = AreMarks-more m.kept (m.kept + length bytes) m.marks a.within (omega arith);
    }
agrees-after k log m I.Synced a h =
    record {
      told = omega (arith, h);
      kept = a.kept;
      synced = sym (ap (λ (n : ℕ). take n log.kept) (within-later k (min (m.told + 1) (2 ^ 64 - 1)) m.kept m.marks (omega (arith, h)) ∙ a.kept) ∙ take-length log.kept);
      within = each_push (λ k. k.kept ≤ m.kept) m.marks _ a.within (omega arith);
    }
agrees-after k log m (I.Listening x) a h = plain-agrees k log m a h
agrees-after k log m (I.LogBegun x) a h = plain-agrees k log m a h
agrees-after k log m (I.Dialled x y z) a h = plain-agrees k log m a h
agrees-after k log m (I.Polled x) a h = plain-agrees k log m a h
agrees-after k log m (I.Took x y) a h = plain-agrees k log m a h
agrees-after k log m (I.Gave x y) a h = plain-agrees k log m a h
agrees-after k log m (I.ReadNotYet x) a h = plain-agrees k log m a h
agrees-after k log m (I.WriteNotYet x) a h = plain-agrees k log m a h
agrees-after k log m (I.Ended x) a h = plain-agrees k log m a h
agrees-after k log m (I.Failed x) a h = plain-agrees k log m a h
agrees-after k log m (I.Shut x) a h = plain-agrees k log m a h

-- what comes behind so many items adds no sync among them
pub record Follows (k : ℕ) (m : Marking) : Type 0 where
  pub told : k ≤ m.told
  pub low : k < 2 ^ 64 - 1

plain-follows : (k : ℕ) (m : Marking) (kept : ℕ) (marks : List SyncMark) → Follows k m → Follows k (record { told = min (m.told + 1) (2 ^ 64 - 1); kept = kept; marks = marks })
plain-follows k m kept marks f = let t = f.told in let l = f.low in record { told = omega (arith, t, l); low = l }

follows-after : (k : ℕ) (m : Marking) (item : Item) → Follows k m → Follows k (marking_after m item) × (synced_at k (marking_after m item).marks ≡ synced_at k m.marks)
follows-after k m (I.Kept bytes) f = (plain-follows k m (m.kept + length bytes) m.marks f, refl)
follows-after k m I.Synced f = (
  plain-follows k m m.kept (with_mark (min (m.told + 1) (2 ^ 64 - 1)) m.kept m.marks) f,
  beyond-later k (min (m.told + 1) (2 ^ 64 - 1)) m.kept m.marks (let t = f.told in let l = f.low in omega (arith, t, l)),
)
follows-after k m (I.Listening x) f = (plain-follows k m m.kept m.marks f, refl)
follows-after k m (I.LogBegun x) f = (plain-follows k m m.kept m.marks f, refl)
follows-after k m (I.Dialled x y z) f = (plain-follows k m m.kept m.marks f, refl)
follows-after k m (I.Polled x) f = (plain-follows k m m.kept m.marks f, refl)
follows-after k m (I.Took x y) f = (plain-follows k m m.kept m.marks f, refl)
follows-after k m (I.Gave x y) f = (plain-follows k m m.kept m.marks f, refl)
follows-after k m (I.ReadNotYet x) f = (plain-follows k m m.kept m.marks f, refl)
follows-after k m (I.WriteNotYet x) f = (plain-follows k m m.kept m.marks f, refl)
follows-after k m (I.Ended x) f = (plain-follows k m m.kept m.marks f, refl)
follows-after k m (I.Failed x) f = (plain-follows k m m.kept m.marks f, refl)
follows-after k m (I.Shut x) f = (plain-follows k m m.kept m.marks f, refl)

synced-behind : (k : ℕ) (m : Marking) (items : List Item) → Follows k m → synced_at k (fold marking_after m items).marks ≡ synced_at k m.marks
synced-behind k m [] f = refl
synced-behind k m (item ∷ items) f = let n = follows-after k m item f in synced-behind k (marking_after m item) items n.0 ∙ n.1

told-after : (m : Marking) (item : Item) → (marking_after m item).told ≡ min (m.told + 1) (2 ^ 64 - 1)
told-after m (I.Kept bytes) = refl
told-after m I.Synced = refl
told-after m (I.Listening x) = refl
told-after m (I.LogBegun x) = refl
told-after m (I.Dialled x y z) = refl
told-after m (I.Polled x) = refl
told-after m (I.Took x y) = refl
told-after m (I.Gave x y) = refl
told-after m (I.ReadNotYet x) = refl
told-after m (I.WriteNotYet x) = refl
told-after m (I.Ended x) = refl
told-after m (I.Failed x) = refl
told-after m (I.Shut x) = refl

-- the bytes synced among the next so many items
synced-from : (n k : ℕ) (log : Log) (m : Marking) (items : List Item) → Agrees k log m → m.told + n ≡ k → k < 2 ^ 64 - 1
    → (fold log_after log (take n items)).synced ≡ take (synced_at k (fold marking_after m items).marks) (fold log_after log items).kept
synced-from n k log m [] a e l = nothing n
  where
    nothing : (n : ℕ) → (fold log_after log (take n [])).synced ≡ take (synced_at k m.marks) log.kept
    nothing zero = a.synced
    nothing (suc n) = a.synced
synced-from zero k log m (item ∷ items) a e l =
    let s = synced-inside m.kept k m.marks a.within in
    let w = a.kept in
    let b : synced_at k (fold marking_after m (item ∷ items)).marks ≡ synced_at k m.marks = synced-behind k m (item ∷ items) (record { told = omega (arith, e); low = l }) in
    a.synced ∙ (sym (take-more (synced_at k m.marks) log.kept (kept_in (item ∷ items)) (omega (arith, s, w)))
    ∙ (ap (λ (r : List ℕ). take (synced_at k m.marks) r) (sym (kept-from log (item ∷ items)))
    ∙ ap (λ (j : ℕ). take j (fold log_after log (item ∷ items)).kept) (sym b)))
synced-from (suc n) k log m (item ∷ items) a e l =
    let t = told-after m item in
    synced-from n k (log_after log item) (marking_after m item) items (agrees-after k log m item a (omega (arith, e))) (omega (arith, t, e, l)) l

pub synced-is : (k : ℕ) (items : List Item) → k < 2 ^ 32 → synced_in (take k items) ≡ take (synced_at k (marking_in items).marks) (kept_in items)
synced-is k items h =
    let none : Log = record { kept = []; synced = [] } in
    let zero_marks : Marking = record { told = 0; kept = 0; marks = [] } in
    synced-from k k none zero_marks items (record { told = omega arith; kept = refl; synced = refl; within = tt }) (omega arith) (omega (arith, h))
    ∙ ap (λ (r : List ℕ). take (synced_at k (marking_in items).marks) r) (kept-from none items)
