-- Client messages: how their values are read, and which are refused.
use Rattle.std.specs.Prelude.{◌≡◌, [], ◌∷◌, Some, codes}
use Rattle.session_model.specs.Transcript.{done}
use Rattle.worked_examples.specs.Files.{lines, file_replayed}

abbrev pub InputTypes : Type 0
InputTypes =
    file_replayed
    (lines (codes "input n = 1;" ∷
    codes "text o { input$n }" ∷ []))
    (lines (codes "s recv {\"method\":\"init\",\"data\":{\"n:shiny.number\":3,\".clientdata_output_o_hidden\":false}}" ∷
    codes "s recv {\"method\":\"update\",\"data\":{\"n\":1.5}}" ∷
    codes "s recv {\"method\":\"update\",\"data\":{\"n\":[1,2]}}" ∷ []))
    ≡ Some (record {
      output = lines (codes "s send {\"config\":{\"sessionId\":\"s\",\"user\":null,\"workerId\":\"\"}}" ∷
          codes "s send {\"busy\":\"busy\"}" ∷
          codes "s send {\"progress\":{\"message\":{\"id\":\"o\"},\"type\":\"binding\"}}" ∷
          codes "s send {\"recalculating\":{\"name\":\"o\",\"status\":\"recalculating\"}}" ∷
          codes "s send {\"recalculating\":{\"name\":\"o\",\"status\":\"recalculated\"}}" ∷
          codes "s send {\"errors\":{},\"inputMessages\":[],\"values\":{\"o\":\"3\"}}" ∷
          codes "s send {\"busy\":\"idle\"}" ∷
          codes "s send {\"busy\":\"busy\"}" ∷
          codes "s send {\"progress\":{\"message\":{\"id\":\"o\"},\"type\":\"binding\"}}" ∷
          codes "s send {\"recalculating\":{\"name\":\"o\",\"status\":\"recalculating\"}}" ∷
          codes "s send {\"recalculating\":{\"name\":\"o\",\"status\":\"recalculated\"}}" ∷
          codes "s send {\"errors\":{},\"inputMessages\":[],\"values\":{\"o\":\"\"}}" ∷
          codes "s send {\"busy\":\"idle\"}" ∷
          codes "s send {\"busy\":\"busy\"}" ∷
          codes "s send {\"progress\":{\"message\":{\"id\":\"o\"},\"type\":\"binding\"}}" ∷
          codes "s send {\"recalculating\":{\"name\":\"o\",\"status\":\"recalculating\"}}" ∷
          codes "s send {\"recalculating\":{\"name\":\"o\",\"status\":\"recalculated\"}}" ∷
          codes "s send {\"errors\":{},\"inputMessages\":[],\"values\":{\"o\":\"1 2\"}}" ∷
          codes "s send {\"busy\":\"idle\"}" ∷
          codes "s over ended" ∷ []);
      end = done;
    })

abbrev pub MessageThatIsNotJson : Type 0
MessageThatIsNotJson =
    file_replayed
    (lines (codes "input n = 1;" ∷
    codes "text o { input$n }" ∷ []))
    (lines (codes "s recv {\"method\":\"init\",\"data\":{" ∷ []))
    ≡ Some (record {
      output = lines (codes "s over refused 1 NotJson" ∷ []);
      end = done;
    })

abbrev pub MessageThatIsNoObject : Type 0
MessageThatIsNoObject =
    file_replayed
    (lines (codes "input n = 1;" ∷
    codes "text o { input$n }" ∷ []))
    (lines (codes "s recv []" ∷ []))
    ≡ Some (record {
      output = lines (codes "s over refused 1 NotObject" ∷ []);
      end = done;
    })

abbrev pub UpdateBeforeTheInit : Type 0
UpdateBeforeTheInit =
    file_replayed
    (lines (codes "input n = 1;" ∷
    codes "text o { input$n }" ∷ []))
    (lines (codes "s recv {\"method\":\"update\",\"data\":{\"n\":2}}" ∷ []))
    ≡ Some (record {
      output = lines (codes "s over refused 1 EarlyUpdate" ∷ []);
      end = done;
    })

abbrev pub SecondInit : Type 0
SecondInit =
    file_replayed
    (lines (codes "input n = 1;" ∷
    codes "text o { input$n }" ∷ []))
    (lines (codes "s recv {\"method\":\"init\",\"data\":{\"n\":1,\".clientdata_output_o_hidden\":false}}" ∷
    codes "s recv {\"method\":\"init\",\"data\":{\"n\":1,\".clientdata_output_o_hidden\":false}}" ∷ []))
    ≡ Some (record {
      output = lines (codes "s send {\"config\":{\"sessionId\":\"s\",\"user\":null,\"workerId\":\"\"}}" ∷
          codes "s send {\"busy\":\"busy\"}" ∷
          codes "s send {\"progress\":{\"message\":{\"id\":\"o\"},\"type\":\"binding\"}}" ∷
          codes "s send {\"recalculating\":{\"name\":\"o\",\"status\":\"recalculating\"}}" ∷
          codes "s send {\"recalculating\":{\"name\":\"o\",\"status\":\"recalculated\"}}" ∷
          codes "s send {\"errors\":{},\"inputMessages\":[],\"values\":{\"o\":\"1\"}}" ∷
          codes "s send {\"busy\":\"idle\"}" ∷
          codes "s over refused 2 SecondInit" ∷ []);
      end = done;
    })

abbrev pub TwoNamesOfOneInput : Type 0
TwoNamesOfOneInput =
    file_replayed
    (lines (codes "input n = 1;" ∷
    codes "text o { input$n }" ∷ []))
    (lines (codes "s recv {\"method\":\"init\",\"data\":{\"n\":1,\".clientdata_output_o_hidden\":false}}" ∷
    codes "s recv {\"method\":\"update\",\"data\":{\"n:shiny.number\":1,\"n\":2}}" ∷
    codes "s recv {\"method\":\"update\",\"data\":{\"n:shiny.number\":1,\"n\":1}}" ∷
    codes "s recv {\"method\":\"update\",\"data\":{\"n:shiny.number\":3,\"n\":1}}" ∷ []))
    ≡ Some (record {
      output = lines (codes "s send {\"config\":{\"sessionId\":\"s\",\"user\":null,\"workerId\":\"\"}}" ∷
          codes "s send {\"busy\":\"busy\"}" ∷
          codes "s send {\"progress\":{\"message\":{\"id\":\"o\"},\"type\":\"binding\"}}" ∷
          codes "s send {\"recalculating\":{\"name\":\"o\",\"status\":\"recalculating\"}}" ∷
          codes "s send {\"recalculating\":{\"name\":\"o\",\"status\":\"recalculated\"}}" ∷
          codes "s send {\"errors\":{},\"inputMessages\":[],\"values\":{\"o\":\"1\"}}" ∷
          codes "s send {\"busy\":\"idle\"}" ∷
          codes "s send {\"busy\":\"busy\"}" ∷
          codes "s send {\"progress\":{\"message\":{\"id\":\"o\"},\"type\":\"binding\"}}" ∷
          codes "s send {\"recalculating\":{\"name\":\"o\",\"status\":\"recalculating\"}}" ∷
          codes "s send {\"recalculating\":{\"name\":\"o\",\"status\":\"recalculated\"}}" ∷
          codes "s send {\"errors\":{},\"inputMessages\":[],\"values\":{\"o\":\"1\"}}" ∷
          codes "s send {\"busy\":\"idle\"}" ∷
          codes "s send {\"busy\":\"busy\"}" ∷
          codes "s send {\"progress\":{\"message\":{\"id\":\"o\"},\"type\":\"binding\"}}" ∷
          codes "s send {\"recalculating\":{\"name\":\"o\",\"status\":\"recalculating\"}}" ∷
          codes "s send {\"recalculating\":{\"name\":\"o\",\"status\":\"recalculated\"}}" ∷
          codes "s send {\"errors\":{},\"inputMessages\":[],\"values\":{\"o\":\"3\"}}" ∷
          codes "s send {\"busy\":\"idle\"}" ∷
          codes "s over ended" ∷ []);
      end = done;
    })
