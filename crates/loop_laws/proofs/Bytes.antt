-- Bytes: what the items say of a socket, step by step, is what their bytes say.
use Rattle.std.proofs.Common.{◌≡◌, ℕ, Bool, true, false, refl, sym, ap, ◌∙◌, List, [], ◌∷◌, ◌++◌, append_assoc, append-nil}
use Rattle.std.specs.Prelude.{◌==◌, flat_map, if◌then◌else◌}
use Rattle.std.specs.List.{fold}
use Rattle.wire_frames.specs.declared.frames.Frame.{Frame}
use Rattle.wire_frames.specs.Reading.{Reading}
use Rattle.wire_frames.specs.Streams.{Stream, end_of, stream_of, given_of, given_over}
use Rattle.wire_frames.proofs.Pieces.{pieces_same}
use Rattle.socket_station.specs.Items.{Item, Listening, LogBegun, Dialled, Polled, Took, Gave, ReadNotYet, WriteNotYet, Ended, Failed, Shut, Kept, Synced}
use Rattle.socket_station.specs.Moved.{taken_in, gave_at, given_in}
use Rattle.loop_laws.specs.Sockets.{came_on, dialled_at, dialled_for}
use Rattle.loop_laws.proofs.Speakers.{Facts, no_facts}
use Rattle.loop_laws.proofs.Giving.{with_given}
use Rattle.loop_laws.proofs.Steps.{facts_after, with_taken, with_dialled}

-- what the items say of the socket
abbrev pub facts_in : (socket : ℕ) → List Item → Facts
facts_in n items = fold (facts_after n) no_facts items

-- the pieces of bytes that were taken on the socket
abbrev pub piece_at : (socket : ℕ) → Item → List (List ℕ)
piece_at n (Took m bytes) = if m == n then bytes ∷ [] else []
piece_at n _ = []

abbrev pieces_on : (socket : ℕ) → List Item → List (List ℕ)
pieces_on n items = flat_map (piece_at n) items

pieces_flat : (n : ℕ) (items : List Item) → flat_map (λ piece. piece) (pieces_on n items) ≡ taken_in n items
pieces_flat n [] = refl
pieces_flat n (Took m bytes ∷ items) = go (m == n) (pieces_flat n items)
  where
    go : (b : Bool) → flat_map (λ piece. piece) (pieces_on n items) ≡ taken_in n items →
        flat_map (λ piece. piece) ((if b then bytes ∷ [] else []) ++ pieces_on n items) ≡ (if b then bytes else []) ++ taken_in n items
    go true e = ap (λ (x : List ℕ). bytes ++ x) e
    go false e = e
pieces_flat n (Gave m bytes ∷ items) = pieces_flat n items
pieces_flat n (Dialled m q addr ∷ items) = pieces_flat n items
pieces_flat n (LogBegun name ∷ items) = pieces_flat n items
pieces_flat n (Listening addr ∷ items) = pieces_flat n items
pieces_flat n (Polled list ∷ items) = pieces_flat n items
pieces_flat n (ReadNotYet m ∷ items) = pieces_flat n items
pieces_flat n (WriteNotYet m ∷ items) = pieces_flat n items
pieces_flat n (Ended m ∷ items) = pieces_flat n items
pieces_flat n (Shut m ∷ items) = pieces_flat n items
pieces_flat n (Kept bytes ∷ items) = pieces_flat n items
pieces_flat n (Synced ∷ items) = pieces_flat n items
pieces_flat n (Failed call ∷ items) = pieces_flat n items

over_append : (r : Reading) (xs ys : List (List ℕ)) → (given_over r (xs ++ ys)).frames ≡ (given_over r xs).frames ++ (given_over (given_over r xs).reader ys).frames
over_append r [] ys = refl
over_append r (x ∷ xs) ys =
    let g = given_of r x in
    ap (λ (z : List Frame). g.frames ++ z) (over_append g.reader xs ys) ∙ sym (append_assoc g.frames (given_over g.reader xs).frames (given_over (given_over g.reader xs).reader ys).frames)

over_reader : (r : Reading) (xs ys : List (List ℕ)) → (given_over r (xs ++ ys)).reader ≡ (given_over (given_over r xs).reader ys).reader
over_reader r [] ys = refl
over_reader r (x ∷ xs) ys = over_reader (given_of r x).reader xs ys

-- what one item adds
abbrev pub Adds : (socket : ℕ) → Facts → Item → (after : Facts) → Type 0
Adds n facts item after =
    (after.given ≡ facts.given ++ gave_at n item) × (after.dialled ≡ facts.dialled ++ dialled_at n item) × (after.came ≡ facts.came ++ (given_over facts.reader (piece_at n item)).frames) ×
    (after.reader ≡ (given_over facts.reader (piece_at n item)).reader)

adds_none : (facts : Facts) → (facts.given ≡ facts.given ++ []) × (facts.dialled ≡ facts.dialled ++ []) × (facts.came ≡ facts.came ++ []) × (facts.reader ≡ facts.reader)
adds_none facts = (sym (append-nil facts.given), sym (append-nil facts.dialled), sym (append-nil facts.came), refl)

pub adds : (n : ℕ) (facts : Facts) (item : Item) → Adds n facts item (facts_after n facts item)
adds n facts (Gave m bytes) = go (m == n)
  where
    go : (b : Bool) → let after = if b then with_given facts (facts.given ++ bytes) else facts in
        (after.given ≡ facts.given ++ (if b then bytes else [])) × (after.dialled ≡ facts.dialled ++ []) × (after.came ≡ facts.came ++ []) × (after.reader ≡ facts.reader)
    go true = (refl, (adds_none facts).1, (adds_none facts).2, refl)
    go false = adds_none facts
adds n facts (Dialled m q addr) = go (m == n)
  where
    go : (b : Bool) → let after = if b then with_dialled facts q else facts in
        (after.given ≡ facts.given ++ []) × (after.dialled ≡ facts.dialled ++ (if b then q ∷ [] else [])) × (after.came ≡ facts.came ++ []) × (after.reader ≡ facts.reader)
    go true = ((adds_none facts).0, refl, (adds_none facts).2, refl)
    go false = adds_none facts
adds n facts (Took m bytes) = go (m == n)
  where
    go : (b : Bool) → let after = if b then with_taken facts bytes else facts in let g = given_over facts.reader (if b then bytes ∷ [] else []) in
        (after.given ≡ facts.given ++ []) × (after.dialled ≡ facts.dialled ++ []) × (after.came ≡ facts.came ++ g.frames) × (after.reader ≡ g.reader)
    go true = ((adds_none facts).0, (adds_none facts).1, ap (λ (x : List Frame). facts.came ++ x) (sym (append-nil (given_of facts.reader bytes).frames)), refl)
    go false = adds_none facts
adds n facts (LogBegun name) = adds_none facts
adds n facts (Listening addr) = adds_none facts
adds n facts (Polled list) = adds_none facts
adds n facts (ReadNotYet m) = adds_none facts
adds n facts (WriteNotYet m) = adds_none facts
adds n facts (Ended m) = adds_none facts
adds n facts (Shut m) = adds_none facts
adds n facts (Kept bytes) = adds_none facts
adds n facts Synced = adds_none facts
adds n facts (Failed call) = adds_none facts

given_from : (n : ℕ) (facts : Facts) (items : List Item) → (fold (facts_after n) facts items).given ≡ facts.given ++ given_in n items
given_from n facts [] = sym (append-nil facts.given)
given_from n facts (item ∷ items) =
    given_from n (facts_after n facts item) items ∙ ap (λ (x : List ℕ). x ++ given_in n items) (adds n facts item).0 ∙ append_assoc facts.given (gave_at n item) (given_in n items)

dialled_from : (n : ℕ) (facts : Facts) (items : List Item) → (fold (facts_after n) facts items).dialled ≡ facts.dialled ++ dialled_for n items
dialled_from n facts [] = sym (append-nil facts.dialled)
dialled_from n facts (item ∷ items) =
    dialled_from n (facts_after n facts item) items ∙ ap (λ (x : List ℕ). x ++ dialled_for n items) (adds n facts item).1 ∙ append_assoc facts.dialled (dialled_at n item) (dialled_for n items)

came_from : (n : ℕ) (facts : Facts) (items : List Item) → (fold (facts_after n) facts items).came ≡ facts.came ++ (given_over facts.reader (pieces_on n items)).frames
came_from n facts [] = sym (append-nil facts.came)
came_from n facts (item ∷ items) =
    let a = adds n facts item in
    let g = given_over facts.reader (piece_at n item) in
    let rest : Reading → List Frame = λ r. (given_over r (pieces_on n items)).frames in
    came_from n (facts_after n facts item) items ∙ ap (λ (x : List Frame). x ++ rest (facts_after n facts item).reader) a.2 ∙ ap (λ (r : Reading). (facts.came ++ g.frames) ++ rest r) a.3 ∙
    append_assoc facts.came g.frames (rest g.reader) ∙ ap (λ (x : List Frame). facts.came ++ x) (sym (over_append facts.reader (piece_at n item) (pieces_on n items)))

pub facts_given : (n : ℕ) (items : List Item) → (facts_in n items).given ≡ given_in n items
facts_given n items = given_from n no_facts items

pub facts_dialled : (n : ℕ) (items : List Item) → (facts_in n items).dialled ≡ dialled_for n items
facts_dialled n items = dialled_from n no_facts items

pub facts_came : (n : ℕ) (items : List Item) → (facts_in n items).came ≡ came_on n items
facts_came n items =
    came_from n no_facts items ∙ ap (λ (x : Stream). x.frames) (pieces_same (pieces_on n items)) ∙ ap (λ (x : List ℕ). (stream_of x).frames) (pieces_flat n items)

reader_from : (n : ℕ) (facts : Facts) (items : List Item) → (fold (facts_after n) facts items).reader ≡ (given_over facts.reader (pieces_on n items)).reader
reader_from n facts [] = refl
reader_from n facts (item ∷ items) =
    reader_from n (facts_after n facts item) items ∙ ap (λ (r : Reading). (given_over r (pieces_on n items)).reader) (adds n facts item).3 ∙ sym (over_reader facts.reader (piece_at n item) (pieces_on n items))

-- and how the stream ends so far
pub facts_ends : (n : ℕ) (items : List Item) → end_of (facts_in n items).reader ≡ (stream_of (taken_in n items)).ends
facts_ends n items =
    ap end_of (reader_from n no_facts items) ∙ ap (λ (x : Stream). x.ends) (pieces_same (pieces_on n items)) ∙ ap (λ (x : List ℕ). (stream_of x).ends) (pieces_flat n items)
