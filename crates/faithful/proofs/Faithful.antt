-- The promises of a salvaged log and of its list, all of them.
-- Each is proved in a file of its own; the list is true by what is found, by its order and by what doing it gives.
use Rattle.faithful.specs.Faithful.{ListIsTrue, Faithful}
use Rattle.faithful.proofs.Passing.{log_passes}
use Rattle.faithful.proofs.Forming.{all_formed, never_record, again}
use Rattle.faithful.proofs.Amid.{record_passes}
use Rattle.faithful.proofs.Finding.{all_found, rises}
use Rattle.faithful.proofs.Giving.{gives, alone}
use Rattle.faithful.proofs.Reading.{one_list}
use Rattle.faithful.proofs.Pieces.{pieces}
use Rattle.faithful.proofs.Room.{room_enough}

pub list_is_true : ListIsTrue
list_is_true first log = record { found = all_found first log; rising = rises first log; gives = gives first log; alone = alone first log }

pub faithful : Faithful
faithful =
    record {
      record_passes = record_passes;
      log_passes = log_passes;
      all_formed = all_formed;
      never_record = never_record;
      list_is_true = list_is_true;
      one_list = one_list;
      again = again;
      pieces = pieces;
      room_enough = room_enough;
    }
