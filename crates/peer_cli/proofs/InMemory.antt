-- InMemory: a run over objects in memory keeps to what they hold.
use Rattle.std.proofs.Common.{◌≡◌, ◌⊎◌, inl, inr, false, true, List, [], ◌∷◌, ◌++◌, ℕ, zero, suc, Option, Some, None, length, drop, refl, ap, sym, ◌∙◌, subst, append_assoc}
use Rattle.std.specs.Prelude.{map}
use Rattle.std.proofs.Math.Seq.{drop-append_seam}
use Rattle.definitions.specs.Lists.{item_or}
use Rattle.station.specs.Files.{content_in}
use Rattle.station.specs.Outside.{Rose}
use Rattle.station.specs.Pieces.{AllGive}
use Rattle.station.specs.Plans.{HeldShelf, HeldSink, HeldSource, Left, Bytes, Nothing, bytes_left, is_ended, shelf_state, sink_state, source_state}
use Rattle.station.specs.Shelves.{ShelfState}
use Rattle.station.specs.Since.{since}
use Rattle.run_frame.specs.Ends.{Finished}
use Rattle.line_io.specs.Inputs.{AtEnd, AtFault, MayFollow, input_of}
use Rattle.run_frame.specs.declared.statuses.Status.{Status}
use Rattle.line_io.specs.Files.{AreContents, AreReadings, Calls}
use Rattle.run_frame.specs.Law.{Law, ReadsFor}
use Rattle.run_frame.specs.Outside.{IsApart}
use Rattle.run_frame.specs.Runs.{Acts, ReadsOn, Runs}
use Rattle.rand_core.specs.Stream.{Stream}
use Rattle.socket_station.specs.Items.{Item}
use Rattle.datagram_post.specs.Items.{Item as Mailing}
use Rattle.peer_cli.specs.Memory.{ActsInMemory, contents_of, outside_of}

-- what was left is what was read and what is left
left_is : (s t : HeldSource) → ReadsOn (source_state s) (source_state t) → bytes_left s.left ≡ since s.seen t.seen ++ bytes_left t.left
left_is s t r =
    let whole : s.seen ++ bytes_left s.left ≡ t.seen ++ bytes_left t.left = same_some (sym r.same) in
    sym (drop-append_seam s.seen (bytes_left s.left)) ∙
    ap (drop (length s.seen)) (whole ∙ ap (λ x. x ++ bytes_left t.left) r.grows ∙ append_assoc s.seen (since s.seen t.seen) (bytes_left t.left)) ∙
    drop-append_seam s.seen (since s.seen t.seen ++ bytes_left t.left)
  where
    same_some : {a b : List ℕ} → (let x : Option (List ℕ) = Some a in x ≡ Some b) → a ≡ b
    same_some e = cc

-- nothing is left behind the end
none_left : (left : Left) → MayFollow (is_ended left) (bytes_left left)
none_left (Bytes bytes) = λ e. absurd (let never : false ≡ true = e in cc)
none_left Nothing = λ e. refl

-- the files of a shelf that shows them are what was read
shown_are : (files : List ℕ → Option (List ℕ)) (names : List (List ℕ)) (calls : Calls) → AreReadings (Some files) names calls → AreContents (map files names) calls
shown_are files [] calls r n = subst (λ (c : Calls). AllGive None (item_or c n [])) (sym r) tt
shown_are files (name ∷ names) [] r n = absurd r
shown_are files (name ∷ names) (pieces ∷ calls) r zero = r.1
shown_are files (name ∷ names) (pieces ∷ calls) r (suc n) = shown_are files names calls r.2 n

files_are : (law : Law) (shelf : HeldShelf) (read : ShelfState) (calls : Calls) → ReadsFor law (shelf_state shelf) read calls → AreContents (contents_of law shelf) calls
files_are law shelf read calls r = shown_are (content_in shelf.files) law.names calls r.reads.readings

pub ran_in_memory : (law : Law) (i i' : HeldSource) (a b : HeldSink) (h h' : HeldShelf) (items items' : List Item) (mails mails' : List Mailing) (chance later : Stream) (s : Status) →
    Runs law (outside_of i a h items mails chance) (outside_of i' b h' items' mails' later) s → ActsInMemory law i i' a b h h' items items' mails mails' chance later s
ran_in_memory law i i' a b h h' items items' mails mails' chance later s r = record {
  read = since i.seen i'.seen;
  input_is = left_is i i' r.input;
  text = elim (r.text (contents_of law h) (bytes_left i'.left) (record { given = files_are law h r.read r.calls r.files; follows = none_left i'.left })) [
    | inl (apart, due) ↦ inl (
      apart,
      subst (λ (x : List ℕ). Finished (sink_state a) (sink_state b) (law.answer (contents_of law h) (input_of AtEnd x))
          (law.answer (contents_of law h) (input_of AtFault (since i.seen i'.seen))) law.late
          (Rose i.plan.faults i'.plan.faults) (Rose h.plan.faults h'.plan.faults × (source_state i' ≡ source_state i)) s) (sym (left_is i i' r.input)) due,
    )
    | inr p ↦ inr p
  ];
}
