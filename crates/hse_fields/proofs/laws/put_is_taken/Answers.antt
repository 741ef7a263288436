use Rattle.hse_fields.specs.laws.Fields.{number_again, bytes_again}
use Rattle.hse_fields.proofs.laws.put_is_taken.Goals as goal

pub returns-clause-numbers : goal.returns-clause-numbers
returns-clause-numbers c = λ n number rest small. number_again n number rest small

pub returns-clause-bytes : goal.returns-clause-bytes
returns-clause-bytes c = bytes_again
