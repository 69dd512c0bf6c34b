use Rattle.std.proofs.Common.{List, Some, inl, inr, slice_get, subst, ℕ, ◌<◌, ◌≡◌, ◌≤◌}
use Rattle.std.proofs.lemmas.Bool.{cases_lt}
use Rattle.frame_index.specs.declared.kept.KeptFrame.{KeptFrame}
use Rattle.frame_index.specs.declared.kept.TheConstants.{FEW}
use Rattle.frame_index.specs.Kept.{StandsAt}
use Rattle.frame_index.proofs.Growing.{added_grows, noted_grows, on_ok, stands_within}
use Rattle.frame_index.proofs.kept.take_kept.Goals as goal

pub returns-in-Some-clause-ok : goal.returns-in-Some-clause-ok
returns-in-Some-clause-ok c =
    on_ok c.note_at.result (λ is. noted_grows c.args.session.now c.args.frame.now c.args.spot c.args.kept.now.items c.note_at.new.kept.items c.in-Some.at
    (subst (λ (ks : List KeptFrame). StandsAt ks c.in-Some.at c.args.frame.now) c.deref.ensures.value c.in-Some.ensures.some) is) c.note_at.ensures.ok

pub note_at-requires-in-Some-late_place : goal.note_at-requires-in-Some-late_place
note_at-requires-in-Some-late_place c = record {
  at = stands_within c.args.kept.now.items c.in-Some-late_place.at c.args.frame.now
      (subst (λ (ks : List KeptFrame). StandsAt ks c.in-Some-late_place.at c.args.frame.now) c.deref-2.ensures.value c.in-Some-late_place.ensures.some);
  spot = c.requires.spot;
}

pub returns-in-Some-late_place-clause-ok : goal.returns-in-Some-late_place-clause-ok
returns-in-Some-late_place-clause-ok c =
    on_ok c.note_at-in-Some-late_place.result (λ is. noted_grows c.args.session.now c.args.frame.now c.args.spot c.args.kept.now.items c.note_at-in-Some-late_place.new.kept.items c.in-Some-late_place.at
    (subst (λ (ks : List KeptFrame). StandsAt ks c.in-Some-late_place.at c.args.frame.now) c.deref-2.ensures.value c.in-Some-late_place.ensures.some) is) c.note_at-in-Some-late_place.ensures.ok

pub returns-clause-ok : goal.returns-clause-ok
returns-clause-ok c =
    on_ok c.add.result (λ is. added_grows c.args.session.now c.args.frame.now c.frame_digest-digest.result c.args.spot c.args.kept.now.items c.add.new.kept.items c.frame_digest-digest.ensures other is) c.add.ensures.ok
  where
    first : (at : ℕ) (k : KeptFrame) → at < FEW → slice_get c.args.kept.now.items at ≡ Some k → k.frame ≡ c.args.frame.now → ⊥
    first = subst (λ (ks : List KeptFrame). (at : ℕ) (k : KeptFrame) → at < FEW → slice_get ks at ≡ Some k → k.frame ≡ c.args.frame.now → ⊥) c.deref.ensures.value c.in_default.ensures.none

    late : (at : ℕ) (k : KeptFrame) → FEW ≤ at → slice_get c.args.kept.now.items at ≡ Some k → k.frame ≡ c.args.frame.now → k.digest ≡ c.frame_digest-digest.result → ⊥
    late = subst (λ (ks : List KeptFrame). (at : ℕ) (k : KeptFrame) → FEW ≤ at → slice_get ks at ≡ Some k → k.frame ≡ c.args.frame.now → k.digest ≡ c.frame_digest-digest.result → ⊥) c.deref-2.ensures.value c.in_default-late_place.ensures.none

    other : (i : ℕ) (k : KeptFrame) → slice_get c.args.kept.now.items i ≡ Some k → k.frame ≡ c.args.frame.now → k.digest ≡ c.frame_digest-digest.result → ⊥
    other i k there frame digest = elim (cases_lt i FEW) [
      | inl lt ↦ first i k lt there frame
      | inr ge ↦ late i k ge there frame digest
    ]
