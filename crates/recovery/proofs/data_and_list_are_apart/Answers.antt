use Rattle.recovery.proofs.Datas.{calls_keep_data, data_calls_keep_list, data_writes}
use Rattle.recovery.proofs.data_and_list_are_apart.Goals as goal

pub returns : goal.returns
returns c = record { sectors = calls_keep_data; list = data_calls_keep_list; writes = data_writes }
