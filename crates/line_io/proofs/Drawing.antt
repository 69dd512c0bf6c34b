-- What is read of a source, call by call.
use Rattle.std.proofs.Common.{◌≡◌, ℕ, ◌≤◌, Bool, false, List, [], ◌++◌, take, drop, refl, ap, sym, ◌∙◌, append_assoc, append-nil, arith}
use Rattle.std.proofs.lemmas.List.{drop_all, length-take}
use Rattle.station.specs.Outside.{faults_behind}
use Rattle.station.specs.Since.{since, Grows, since_is, since_none, since_on, grows_by, grows_none, grows_on}
use Rattle.station.specs.Sources.{SourceState, after_pull, is_pull_failed}
use Rattle.station.specs.declared.sources.Pull.{Pull}
use Rattle.station.specs.declared.sources.Pull.TheVariants.{Took, Ended, Failed}
use Rattle.line_io.specs.Readings.{Drew}

-- nothing was read
pub drew_none : (s : SourceState) → Drew s s false
drew_none s = record { same = refl; grows = grows_none s.seen; counted = refl }

-- one stretch behind another
pub drew_on : (a b c : SourceState) (failed : Bool) → Drew a b false → Drew b c failed → Drew a c failed
drew_on a b c failed p q = record {
  same = q.same ∙ p.same;
  grows = grows_on a.seen b.seen c.seen p.grows q.grows;
  counted = q.counted ∙ ap (faults_behind failed) p.counted;
}

-- one call
pub drew_pull : (a b : SourceState) (pull : Pull) (buf : List ℕ) → b ≡ after_pull a pull buf → Drew a b (is_pull_failed pull)
drew_pull a b (Took count) buf e = record {
  same = ap (λ (s : SourceState). s.whole) e;
  grows = grows_by a.seen b.seen (take count buf) (ap (λ (s : SourceState). s.seen) e);
  counted = ap (λ (s : SourceState). s.faults) e;
}
drew_pull a b Ended buf e = record {
  same = ap (λ (s : SourceState). s.whole) e;
  grows = grows_by a.seen b.seen [] (ap (λ (s : SourceState). s.seen) e ∙ sym (append-nil a.seen));
  counted = ap (λ (s : SourceState). s.faults) e;
}
drew_pull a b Failed buf e = record {
  same = ap (λ (s : SourceState). s.whole) e;
  grows = grows_by a.seen b.seen [] (ap (λ (s : SourceState). s.seen) e ∙ sym (append-nil a.seen));
  counted = ap (λ (s : SourceState). s.faults) e;
}

-- reading on behind bytes that were held
pub held_on : (held a b c : List ℕ) → Grows a b → Grows b c → held ++ since a c ≡ (held ++ since a b) ++ since b c
held_on held a b c g h = ap (λ x. held ++ x) (since_on a b c g h) ∙ sym (append_assoc held (since a b) (since b c))

-- nothing was read behind them
pub held_same : (held a : List ℕ) → held ++ since a a ≡ held
held_same held a = ap (λ x. held ++ x) (since_none a) ∙ append-nil held

-- a buffer that was given to its end holds nothing
pub held_none : (from until : ℕ) (chunk : List ℕ) → until ≤ from → drop from (take until chunk) ≡ []
held_none from until chunk le = drop_all from (take until chunk) (omega (arith, length-take until chunk, le))

-- nothing is held, and so what there is was read just now
pub read_there : (held chunk read : List ℕ) (from until : ℕ) (a b : List ℕ) → drop from (take until chunk) ≡ held → until ≤ from → b ≡ a ++ read → held ++ since a b ≡ read
read_there held chunk read from until a b is le took = ap (λ x. x ++ since a b) (sym is ∙ held_none from until chunk le) ∙ since_is a b read took

pub none_there : (held chunk : List ℕ) (from until : ℕ) (a b : List ℕ) → drop from (take until chunk) ≡ held → until ≤ from → b ≡ a → held ++ since a b ≡ []
none_there held chunk from until a b is le same = read_there held chunk [] from until a b is le (same ∙ sym (append-nil a))
