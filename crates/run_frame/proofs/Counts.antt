-- Counts: how the counts of faults move where a command ends, and in the line of a refusal.
use Rattle.std.proofs.Common.{◌≡◌, ◌⊎◌, inl, inr, ap, sym, ◌∙◌, subst, arith}
use Rattle.station.specs.Outside.{one_more}
use Rattle.station.specs.Sinks.{SinkState}
use Rattle.line_io.specs.Readings.{Drew}
use Rattle.line_io.specs.Texts.{CutShort}
use Rattle.run_frame.specs.Ends.{Refuses}
use Rattle.run_frame.specs.Frame.{Answer, Ends, OnNoMemory, is_input_fault}
use Rattle.run_frame.specs.Outside.{CountsFaults, NeitherFailed, OneFailed, Outside, with_output}
use Rattle.run_frame.specs.Statuses.{refusal_of}
use Rattle.run_frame.specs.declared.statuses.Status.{Status}
use Rattle.run_frame.specs.declared.statuses.Status.TheVariants.{NoMemory, InputFault, OutputFault}

-- a run over its input ended, and no file failed
pub ended_counts : (before after : Outside) (due : Answer) (s : Status) → Drew before.input after.input (is_input_fault s) → after.shelf.faults ≡ before.shelf.faults → Ends before.output after.output due s →
    CountsFaults before after s
ended_counts before after due NoMemory d f e = absurd e
ended_counts before after due InputFault d f e = (inl (d.counted, f), ap (λ (s : SinkState). s.faults) e.0)
ended_counts before after due OutputFault d f e = (inl (record { source = d.counted; files = f }), e.rose)
ended_counts before after due s d f e = (record { source = d.counted; files = f }, ap (λ (s : SinkState). s.faults) e.0)

-- the same counts of the input and the shelf, and the sink's where a line was written or not
module _ (first mid : Outside) (c : SinkState) where
  abbrev last : Outside
  last = with_output mid c

  neither : NeitherFailed first mid → NeitherFailed first last
  neither n = record { source = n.source; files = n.files }

  either : NeitherFailed first mid ⊎ OneFailed first mid → NeitherFailed first last ⊎ OneFailed first last
  either (inl n) = inl (neither n)
  either (inr o) = inr o

  -- the line was written
  written : (s : Status) → c.faults ≡ mid.output.faults → CountsFaults first mid s → CountsFaults first last s
  written InputFault e f = (f.0, e ∙ f.1)
  written OutputFault e f = (either f.0, e ∙ f.1)
  written s e f = (neither f.0, e ∙ f.1)

  -- the sink failed in it
  cut : (s : Status) → CutShort mid.output c (refusal_of s) → CountsFaults first mid s → CountsFaults first last OutputFault
  cut InputFault x f = (inr f.0, x.rose ∙ ap one_more f.1)
  cut OutputFault x f = absurd (omega (arith, x.between.longer, x.between.shorter))
  cut s x f = (inl (neither f.0), x.rose ∙ ap one_more f.1)

  pub refused_counts : (s told : Status) → Refuses mid.output c s told → CountsFaults first mid s → CountsFaults first last told
  refused_counts s told (inl h) f = subst (CountsFaults first last) (sym h.0) (written s (ap (λ (s : SinkState). s.faults) h.1) f)
  refused_counts s told (inr h) f = subst (CountsFaults first last) (sym h.0) (cut s h.1 f)

pub where_no_memory : (s : Status) (P : Type 0) → P → OnNoMemory s P
where_no_memory NoMemory P p = p
where_no_memory s P p = tt

-- P, where memory was wanting before the line
pub memory_stays : (P : Type 0) (before now : SinkState) (s told : Status) → Refuses before now s told → OnNoMemory s P → OnNoMemory told P
memory_stays P before now s told (inl h) p = subst (λ (r : Status). OnNoMemory r P) (sym h.0) p
memory_stays P before now s told (inr h) p = subst (λ (r : Status). OnNoMemory r P) (sym h.0) tt
