mod Stands
