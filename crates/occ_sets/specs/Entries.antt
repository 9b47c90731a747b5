-- What clauses see of the observations that a read set keeps and lends.
use Rattle.std.specs.Prelude.{List, [], map, Option, None, Some}
use Rattle.std.specs.Arc.{arc_value}
use Rattle.std.specs.Option.{option_copied}
use Rattle.std.specs.declared.sync.Arc.{Arc}
use Rattle.occ_types.specs.declared.questions.Question.TheVariants as questions
use Rattle.occ_types.specs.PlainData.{object_of}
use Rattle.occ_types.specs.Question.{Question, One}
use Rattle.occ_model.specs.State.{Observation, Found}
use Rattle.occ_sets.specs.declared.entries.Entry as code
use Rattle.occ_sets.specs.declared.entries.Entry.TheVariants as entries
use Rattle.occ_sets.specs.declared.entries.ObservationRef as code_ref
use Rattle.occ_sets.specs.declared.entries.ObservationRef.TheVariants as refs
use Rattle.occ_sets.specs.declared.reads.Answer.TheVariants as answers
use Rattle.occ_sets.specs.declared.reads.Observation as code_observation
use Rattle.occ_sets.specs.declared.short_list.ShortList as code_list
use Rattle.occ_sets.specs.PlainSets.{observation_of}
use Rattle.occ_sets.specs.ShortList.{values}

module _ {Z : Type 0} where
  -- the observation that an entry is of
  abbrev pub whole : code.Entry Z → code_observation.Observation Z
  whole (entries.Found object row) = record { question = questions.One object; answer = answers.Found (Some row) }
  whole (entries.Absent object) = record { question = questions.One object; answer = answers.Found None }
  whole (entries.Whole observation) = observation.value

  -- the plain question and answer of an entry
  abbrev pub seen : code.Entry Z → Observation
  seen entry = observation_of (whole entry)

  -- the plain question and answer that are lent
  abbrev pub observation_lent : code_ref.ObservationRef Z → Observation
  observation_lent (refs.Key object row) = (One object.now.table (object_of object.now).1, Found (option_copied row))
  observation_lent (refs.Whole observation) = observation_of observation.now

  -- the plain question that is lent
  abbrev pub question_lent : code_ref.ObservationRef Z → Question
  question_lent observation = (observation_lent observation).0

  -- what a read set has noted, in the order asked
  abbrev pub noted : Option (Arc (code_list.ShortList (code.Entry Z) Z) Z) → List Observation
  noted None = []
  noted (Some handle) = map seen (values (arc_value handle))
