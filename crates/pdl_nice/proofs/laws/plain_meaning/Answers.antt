use Rattle.std.proofs.Common.{suc, length, sym, ◌∙◌, subst}
use Rattle.pdl_nice.specs.declared.looks.Before.TheVariants.{Other as another}
use Rattle.pdl_nice.specs.Plain.{Means}
use Rattle.pdl_lemmas.specs.Options.{some_inj}
use Rattle.pdl_nice.proofs.NiceSound.{reader_sound}
use Rattle.pdl_nice.proofs.NiceComplete.{reader_complete}
use Rattle.pdl_nice.proofs.PlainRefused.{plain_means, meant}
use Rattle.pdl_nice.proofs.laws.plain_meaning.Goals as goal

pub returns-clause-tokens : goal.returns-clause-tokens
returns-clause-tokens c ws us = (λ e. reader_sound (suc (length ws)) another ws us e, λ h. reader_complete ws us h)

pub returns-clause-one : goal.returns-clause-one
returns-clause-one c ws us vs h k = some_inj (sym (reader_complete ws us h) ∙ reader_complete ws vs k)

pub returns-clause-texts : goal.returns-clause-texts
returns-clause-texts c ws end answer = (λ e. subst (Means ws end) e (plain_means ws end), λ h. meant ws end answer h)
