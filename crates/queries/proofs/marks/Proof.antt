-- `marks` meets its contract, by `hands` of `front_part`, with `marks_front` as the function that does the work.
use contract.Running.{tables, tables_of}
use denote.Triple.Spec.{triple_of}
use denote.Triple.Table.{entered}
use Rattle.front_part.proofs.HandsBack.{hands}
use Rattle.reference.specs.Call.{Marks}
use Rattle.queries.proofs.Handed.{output}
use Rattle.queries.proofs.marks_front.Symbol as front_def
use Rattle.queries.proofs.marks_front.Met as front_thm
use Rattle.queries.specs.contracts.marks.Key as key
use Rattle.queries.specs.contracts.marks as marks
use Rattle.queries.proofs.marks.Statement.{statement}
use Rattle.queries.proofs.marks.Code as code

pub marks_spec : {M : Type 1} → statement M
unfolding tables_of
marks_spec 𝓤 𝓛 𝓜 𝓡 wired =
    entered 𝓤 𝓛.H (triple_of 𝓛 marks.signature (marks.spec 𝓛 𝓜.mem 𝓡.returns))
    (tables 𝓤 𝓛.H 𝓜 𝓡 𝓡.env).C (tables 𝓤 𝓛.H 𝓜 𝓡 𝓡.env).Λ key.name code.function (code.unfolded 𝓤 𝓛.H 𝓜 𝓡 wired)
    (hands (output Marks) front_def.name 𝓛 (tables_of 𝓤 𝓛.H 𝓜 (tables 𝓤 𝓛.H 𝓜 𝓡 𝓡.env)) (front_thm.met 𝓤 𝓛 𝓜 𝓡 (code.calls-queries::marks_front 𝓡.env wired)))
